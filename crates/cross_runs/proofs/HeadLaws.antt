-- The first slot of a history, read and set. Assumes nothing.
use mathlib.Core.Path.{◌≡◌, refl}
use mathlib.Core.List.{List, [], ◌∷◌}
use Prim.Native.Nat.{◌<◌}
use native.Mathlib.Omega.{arith}
use lib.IntN.{ℤ, pos}
use lib.ListN.{length, get_or, set, drop}

-- a history by its first slot and the rest
pub head-back : (l : List ℤ) → 0 < length l → get_or l 0 (pos 0) ∷ drop 1 l ≡ l
head-back [] h = absurd (omega arith)
head-back (x ∷ l) h = refl

-- a history whose first slot was set
pub head-set : (l : List ℤ) (x : ℤ) → 0 < length l → set l 0 x ≡ x ∷ drop 1 l
head-set [] x h = absurd (omega arith)
head-set (y ∷ l) x h = refl
