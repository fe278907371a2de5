-- What the code's struct of gathered bits stands for.
-- Assumes nothing.
-- ---- for the code alone
use Rattle.std.specs.Prelude.{◌≡◌, Bool, List, length}
use Rattle.bits.specs.Bits.{num}
use Rattle.fields.specs.declared.Gathered.{Gathered}

-- a number that holds the bits f, low bit first, and how many they are
pub record Gathers (f : List Bool) (r : Gathered) : Type 0 where
  pub value-is : r.value ≡ num f
  pub count-is : r.count ≡ length f
