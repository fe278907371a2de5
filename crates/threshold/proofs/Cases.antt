-- Worked cases of the definitions, by computation.
-- Assumes nothing.
use mathlib.Core.Path.{◌≡◌, refl}
use mathlib.Core.Bool.{true, false}
use mathlib.Core.List.{[], ◌∷◌}
use Rattle.decimal.specs.Decimal.{read_digits}
use Rattle.threshold.specs.Threshold.{is_digit, all_digits, is_threshold}

-- `4294967295` is a threshold, `4294967296`, `-1` and nothing are none
most-is : is_threshold (52 ∷ 50 ∷ 57 ∷ 52 ∷ 57 ∷ 54 ∷ 55 ∷ 50 ∷ 57 ∷ 53 ∷ []) ≡ true
unfolding is_threshold all_digits is_digit read_digits
most-is = refl

more-is : is_threshold (52 ∷ 50 ∷ 57 ∷ 52 ∷ 57 ∷ 54 ∷ 55 ∷ 50 ∷ 57 ∷ 54 ∷ []) ≡ false
unfolding is_threshold all_digits is_digit read_digits
more-is = refl

minus_is : is_threshold (45 ∷ 49 ∷ []) ≡ false
unfolding is_threshold all_digits is_digit
minus_is = refl

none_is : is_threshold [] ≡ false
unfolding is_threshold
none_is = refl
