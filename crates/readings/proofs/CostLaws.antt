-- What words cost (document 02, §8): word by word, and both stems together.
-- Assumes nothing.
use mathlib.Core.Path.{◌≡◌, refl}
use mathlib.Core.Bool.{Bool}
use mathlib.Core.List.{List, [], ◌∷◌}
use Prim.Native.Nat.{ℕ, zero, suc, ◌+◌, ◌-◌}
use native.Mathlib.Omega.{arith}
use lib.IntN.{ℤ}
use Rattle.word_state.specs.State.{State, side}
use Rattle.words.specs.Word.{Word, given, refused, word}
use Rattle.zones.specs.Report.{Report}
use Rattle.readings.specs.Reading.{on_word, more, reading}
use Rattle.readings.specs.Costs.{cost_at, left_cost, right_cost, costs}
use Rattle.readings.proofs.LocalLaws.{word_on}

-- an accepted word, and those after it
pub costs-on : (bits : List Bool) (n p q : ℕ) (s t : State) (v : ℤ) (z : Report)
    → word bits p s ≡ given v q t z
    → costs bits (suc n) p s ≡ cost_at p q s ∷ costs bits n q t
unfolding costs
costs-on bits n p q s t v z e = rw e

-- and what left's words cost with it
pub left-on : (bits : List Bool) (n p q : ℕ) (s t : State) (v : ℤ) (z : Report)
    → word bits p s ≡ given v q t z
    → left_cost (costs bits (suc n) p s) ≡ side s.channel (q - p) 0 + left_cost (costs bits n q t)
unfolding left_cost
left-on bits n p q s t v z e = rw (costs-on bits n p q s t v z e)

-- a refused word costs nothing
pub costs-stop : (bits : List Bool) (n p c : ℕ) (s : State) → word bits p s ≡ refused c
    → costs bits (suc n) p s ≡ []
unfolding costs
costs-stop bits n p c s e = rw e

-- no word costs nothing
pub costs-none : (bits : List Bool) (p : ℕ) (s : State) → costs bits 0 p s ≡ []
unfolding costs
costs-none bits p s = refl

-- a word counts for one of the two stems
pub either-stem : (c n : ℕ) → side c n 0 + side c 0 n ≡ n
either-stem zero n = omega arith
either-stem (suc c) n = omega arith

-- both stems together cost the bits that a reading used
pub both-stems : (bits : List Bool) (n p : ℕ) (s : State)
    → p + left_cost (costs bits n p s) + right_cost (costs bits n p s) ≡ (reading bits n p s).place
unfolding costs reading left_cost right_cost
both-stems bits zero p s = omega arith
both-stems bits (suc n) p s = go (word bits p s) refl (both-stems bits n)
  where
    go : (w : Word) → word bits p s ≡ w
        → ((q : ℕ) (t : State)
        → q + left_cost (costs bits n q t) + right_cost (costs bits n q t) ≡ (reading bits n q t).place)
        → let c = on_word w (λ v q t. cost_at p q s ∷ costs bits n q t) (λ c. []) in
        p + left_cost c + right_cost c
        ≡ (on_word w (λ v q t. more v (reading bits n q t))
        (λ c. record { refusal = c; samples = []; place = p; state = s })).place
    go (given v q t z) e ih =
        omega (arith, word_on bits p q s t v z e, ih q t, either-stem s.channel (q - p))
    go (refused c) e ih = omega arith
