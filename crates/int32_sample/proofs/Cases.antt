-- Worked samples: each definition tried by computation.
-- Assumes nothing.
use mathlib.Core.Path.{◌≡◌, refl}
use mathlib.Core.Bool.{true, false}
use lib.IntN.{pos, negsuc}
use Rattle.wrapping.specs.Wrap.{low32, wrap32}
use Rattle.int32_sample.specs.Sample.{below, low_bits, above}
use Rattle.int32_sample.specs.Setting.{zeros, ones, dups, setting, reinsert, reinsertable}

-- 5 with the bits 110 below it, low bit first 0, 1, 1; and -3
five : below 3 6 (pos 5) ≡ pos 46
unfolding below wrap32 low32
five = refl

minus-three : below 3 6 (negsuc 2) ≡ negsuc 17
unfolding below wrap32 low32
minus-three = refl

-- the top bit goes: 2 to the 30, shifted by 2, is 0; and 31 places leave the lowest bit as the sign
lost : below 2 3 (pos 1073741824) ≡ pos 3
unfolding below wrap32 low32
lost = refl

sign : below 31 0 (pos 3) ≡ negsuc 2147483647
unfolding below wrap32 low32
sign = refl

-- taken apart again
above-minus : above 3 (negsuc 17) ≡ negsuc 2
unfolding above
above-minus = refl

low-minus : low_bits 3 (negsuc 17) ≡ 6
unfolding low_bits low32
low-minus = refl

-- the first field that is not 0
first-zeros : setting 4 7 9 ≡ zeros 4
first-zeros = refl

then_ones : setting 0 7 9 ≡ ones 7
then_ones = refl

-- copies are those of the lowest bit, not of the sign
copied-odd : reinsert (dups 2) (pos 5) ≡ pos 23
unfolding below low_bits wrap32 low32
copied-odd = refl

copied-even : reinsert (dups 2) (negsuc 3) ≡ negsuc 15
unfolding below low_bits wrap32 low32
copied-even = refl

-- no bits leave the sample
nothing : reinsert (setting 0 0 0) (negsuc 2147483647) ≡ negsuc 2147483647
unfolding below low_bits wrap32 low32
nothing = refl

-- the test: 24 ends in three zeros, and in no more
three-zeros : reinsertable (zeros 3) (pos 24) ≡ true
unfolding low_bits low32
three-zeros = refl

four-zeros : reinsertable (zeros 4) (pos 24) ≡ false
unfolding low_bits low32
four-zeros = refl

-- 31 copies: only 0 and -1 have them
all_alike : reinsertable (dups 31) (negsuc 0) ≡ true
unfolding low_bits low32
all_alike = refl

not_alike : reinsertable (dups 31) (pos 2147483647) ≡ false
unfolding low_bits low32
not_alike = refl
