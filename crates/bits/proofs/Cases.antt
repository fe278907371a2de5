-- Worked cases, computed from the definitions: the bytes of document 01's two starred programs, the
-- end of a payload, and spare bits.
-- Assumes nothing.
use mathlib.Core.Path.{◌≡◌, refl}
use mathlib.Core.List.{[], ◌∷◌}
use Rattle.overlay.specs.Overlay.{overlay}
use Rattle.bits.specs.Bits.{low, num, bits_of, ones}
use Rattle.bits.specs.Checked.{bit_read, bits_read_at, unary_read}
use Rattle.bits.specs.Fields.{get_bits, unary, unary_field}
use Rattle.bits.specs.Laid.{bytes_of, bytes_holding, put}

-- 7E 02: a zero first, then six ones up to a zero
first-zero : unary_read (0x7e ∷ 0x02 ∷ []) 0 ≡ 0 ∷ 0 ∷ 1 ∷ []
unfolding unary_read unary ones bits_of low
first-zero = refl

six-ones : unary_read (0x7e ∷ 0x02 ∷ []) 1 ≡ 0 ∷ 6 ∷ 8 ∷ []
unfolding unary_read unary ones bits_of low
six-ones = refl

-- ones from the fifth bit of eight bytes on, and one more behind them
across-a-window :
    unary_read (0xf0 ∷ 0xff ∷ 0xff ∷ 0xff ∷ 0xff ∷ 0xff ∷ 0xff ∷ 0xff ∷ 0x01 ∷ []) 4 ≡ 0 ∷ 61 ∷ 66 ∷ []
unfolding unary_read unary ones bits_of low
across-a-window = refl

-- a field across two bytes, low bit first
across : bits_read_at (0x7e ∷ 0x02 ∷ []) 6 4 ≡ 0 ∷ 9 ∷ 10 ∷ []
unfolding bits_read_at get_bits num bits_of low
across = refl

-- ones up to the end, a bit past it, and no bits past it
no_zero : unary_read (0xff ∷ []) 3 ≡ 3 ∷ []
unfolding unary_read unary ones bits_of low
no_zero = refl

past_the_end : bit_read (0xff ∷ []) 8 ≡ 3 ∷ []
unfolding bit_read get_bits bits_of low
past_the_end = refl

no_bits_lem : bits_read_at (0xff ∷ []) 20 0 ≡ 0 ∷ 0 ∷ 20 ∷ []
unfolding bits_read_at get_bits num bits_of low
no_bits_lem = refl

-- a field over 32 bits, whose bits are missing too
too_wide : bits_read_at (0xff ∷ []) 0 33 ≡ 5 ∷ []
unfolding bits_read_at
too_wide = refl

-- three ones and a zero from place 6 on: the bits before stay, the spare bits become 0, the byte
-- behind stays
count-laid : put (0x15 ∷ 0xff ∷ 0xaa ∷ []) 6 (unary_field 3) ≡ 0xd5 ∷ 0x01 ∷ 0xaa ∷ []
unfolding put overlay bytes_holding bytes_of unary_field bits_of num low
count-laid = refl
