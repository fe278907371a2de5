-- Worked cases of the definitions, by computation.
-- Assumes nothing.
use mathlib.Core.Path.{◌≡◌, refl}
use mathlib.Core.List.{[], ◌∷◌}
use Rattle.decimal.specs.Column.{column, read_column}
use Rattle.decimal.specs.Decimal.{digits, decimal, read_digits}

-- `0`, `10` and `4294967295`
zero_is : decimal 0 ≡ 48 ∷ []
unfolding decimal digits
zero_is = refl

ten_is : decimal 10 ≡ 49 ∷ 48 ∷ []
unfolding decimal digits
ten_is = refl

large_is : decimal 4294967295 ≡ 52 ∷ 50 ∷ 57 ∷ 52 ∷ 57 ∷ 54 ∷ 55 ∷ 50 ∷ 57 ∷ 53 ∷ []
unfolding decimal digits
large_is = refl

-- `    10`, `10` in two bytes, and in one, which is too narrow
aligned_is : column 6 10 ≡ 32 ∷ 32 ∷ 32 ∷ 32 ∷ 49 ∷ 48 ∷ []
unfolding column decimal digits
aligned_is = refl

full_is : column 2 10 ≡ 49 ∷ 48 ∷ []
unfolding column decimal digits
full_is = refl

narrow-is : column 1 10 ≡ 49 ∷ 48 ∷ []
unfolding column decimal digits
narrow-is = refl

-- `  70` holds 70
read_is : read_column (32 ∷ 32 ∷ 55 ∷ 48 ∷ []) ≡ 70
unfolding read_column read_digits
read_is = refl
