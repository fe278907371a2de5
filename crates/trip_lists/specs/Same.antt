-- Lists of samples that are the same.
-- Assumes nothing.
-- ---- for the code alone
use Rattle.std.specs.Prelude.{◌≡◌, Bool, true, List, ℤ}
use Rattle.passes.specs.Run.{Fit}

-- whether two lists are the same
pub record SameIs (a b : List ℤ) (r : Bool) : Type 0 where
  pub told : a ≡ b → r ≡ true
  pub true-is : r ≡ true → a ≡ b

-- a list of 32-bit numbers, copied
pub record CopyIs (from to : List ℤ) : Type 0 where
  pub copied : to ≡ from
  pub fit : Fit from
