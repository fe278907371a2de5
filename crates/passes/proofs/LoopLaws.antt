-- A pass by turns, as a loop over the buffer makes it: what is done stands before what is left.
-- Assumes nothing.
use mathlib.Core.Path.{◌≡◌, refl, ap}
use mathlib.Core.List.{List, [], ◌∷◌, ◌++◌}
use Prim.Native.Nat.{ℕ, zero, suc, ◌<◌, ◌≤◌}
use native.Mathlib.Omega.{arith}
use lib.IntN.{ℤ, pos}
use lib.ListN.{length, get_or, set, take, drop}
use Rattle.passes.specs.Step.{Stepped}
use Rattle.passes.specs.Run.{Run, run}
use Rattle.passes.specs.declared.DecorrPass.{DecorrPass}

-- what is done already, and what a pass makes of the rest
abbrev pub joined : List ℤ → Run → Run
joined l r = record { pass = r.pass; buffer = l ++ r.buffer }

more : ℤ → Run → Run
more x r = record { pass = r.pass; buffer = x ∷ r.buffer }

module _ (F : DecorrPass → ℕ → ℤ → ℤ → Stepped) where
  -- a turn of the loop
  pub one-turn : (p : DecorrPass) (m i : ℕ) (l : List ℤ) (o : Stepped) → suc i < length l → o ≡ F p m (get_or l i (pos 0)) (get_or l (suc i) (pos 0))
      → joined (take i l) (run F p m (drop i l))
      ≡ joined (take (suc (suc i)) (set (set l i o.a) (suc i) o.b)) (run F o.pass (suc m) (drop (suc (suc i)) (set (set l i o.a) (suc i) o.b)))
  unfolding more
  one-turn p m zero (x ∷ (y ∷ l)) o h e = rw e
  one-turn p m zero (x ∷ []) o h e = absurd (omega arith)
  one-turn p m zero [] o h e = absurd (omega arith)
  one-turn p m (suc i) (x ∷ l) o h e = ap (more x) (one-turn p m i l o (omega arith) e)
  one-turn p m (suc i) [] o h e = absurd (omega arith)

  -- the end: at most one element is left, and keeps its value
  pub no_turn : (p : DecorrPass) (m i : ℕ) (l : List ℤ) → i ≤ length l → length l ≤ suc i → joined (take i l) (run F p m (drop i l)) ≡ record { pass = p; buffer = l }
  unfolding more
  no_turn p m zero [] h k = refl
  no_turn p m zero (x ∷ []) h k = refl
  no_turn p m zero (x ∷ (y ∷ l)) h k = absurd (omega arith)
  no_turn p m (suc i) [] h k = absurd (omega arith)
  no_turn p m (suc i) (x ∷ l) h k = ap (more x) (no_turn p m i l (omega arith) (omega arith))
