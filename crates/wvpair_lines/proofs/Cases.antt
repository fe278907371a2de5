-- Worked cases of the definitions, by computation.
-- Assumes nothing.
use mathlib.Core.Path.{◌≡◌, refl}
use mathlib.Core.List.{[], ◌∷◌}
use lib.IntN.{pos, negsuc}
use Rattle.decimal.specs.Decimal.{digits, decimal}
use Rattle.wvpair_lines.specs.Lines.{frame_line, frame_lines, end_line}
use Rattle.wvpair_lines.specs.Signed.{signed_decimal}

-- `-1` and `-2147483648`
minus_one_is : signed_decimal (negsuc 0) ≡ 45 ∷ 49 ∷ []
unfolding signed_decimal decimal digits
minus_one_is = refl

least-is : signed_decimal (negsuc 2147483647) ≡ 45 ∷ 50 ∷ 49 ∷ 52 ∷ 55 ∷ 52 ∷ 56 ∷ 51 ∷ 54 ∷ 52 ∷ 56 ∷ []
unfolding signed_decimal decimal digits
least-is = refl

-- three samples are one line, `7 -12`, and a half frame, which has none
odd_is : frame_lines (pos 7 ∷ negsuc 11 ∷ pos 5 ∷ []) ≡ 55 ∷ 32 ∷ 45 ∷ 49 ∷ 50 ∷ 10 ∷ []
unfolding frame_lines frame_line signed_decimal decimal digits
odd_is = refl

-- `end 3 bits 17`
end_is : end_line 3 17 ≡ 101 ∷ 110 ∷ 100 ∷ 32 ∷ 51 ∷ 32 ∷ 98 ∷ 105 ∷ 116 ∷ 115 ∷ 32 ∷ 49 ∷ 55 ∷ 10 ∷ []
unfolding end_line decimal digits
end_is = refl
