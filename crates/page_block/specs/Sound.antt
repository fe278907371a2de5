-- Document 02 §5: the peak of some samples of a channel, and its clicks.
-- Assumes nothing.
use Rattle.std.specs.Prelude.{cond, ◌&&◌, not, List, [], ◌∷◌, ℕ, ◌+◌, max, ltb, ℤ, nat_abs}

-- the samples of the left channel: of each frame the first
unfoldable pub lefts : List ℤ → List ℤ
lefts [] = []
lefts (left ∷ []) = []
lefts (left ∷ right ∷ frames) = left ∷ lefts frames

-- and those of the right one: of each frame the second
unfoldable pub rights : List ℤ → List ℤ
rights [] = []
rights (left ∷ []) = []
rights (left ∷ right ∷ frames) = right ∷ rights frames

-- "A peak is the largest distance from 0" (Q5.3); of no samples it is 0
unfoldable pub peak : List ℤ → ℕ
peak [] = 0
peak (v ∷ vs) = max (nat_abs v) (peak vs)

-- 1 for "a sample whose distance exceeds a given threshold while the previous sample of that
-- channel .. did not" (Q5.4), by the previous distance and its own; 0 for any other
unfoldable pub click : ℕ → ℕ → ℕ → ℕ
click threshold previous distance = cond (ltb threshold distance && not (ltb threshold previous)) 1 0

-- the clicks among samples of a channel, by the distance of the sample before them (Q5.4)
unfoldable pub clicks : ℕ → ℕ → List ℤ → ℕ
clicks threshold previous [] = 0
clicks threshold previous (v ∷ vs) = click threshold previous (nat_abs v) + clicks threshold (nat_abs v) vs

-- the distance of the last of some samples of a channel, or of the sample before them where there
-- are none
unfoldable pub last_distance : ℕ → List ℤ → ℕ
last_distance previous [] = previous
last_distance previous (v ∷ vs) = last_distance (nat_abs v) vs
