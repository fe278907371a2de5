-- From the runs by term to a pass: the term that its number stands for, and a term that is not
-- valid. Assumes nothing.
use mathlib.Core.Path.{◌≡◌, refl, sym, ap, ◌∙◌}
use mathlib.Core.List.{List, [], ◌∷◌}
use Prim.Native.Nat.{ℕ, suc}
use lib.IntN.{ℤ}
use mir.Syntax.{w8}
use mir.Val.{SFits, to_z, of_z}
use mir.ValLaws.{to_z-of_z}
use Rattle.passes.specs.Terms.{term_of}
use Rattle.passes.specs.Step.{step, unstep, advanced}
use Rattle.passes.specs.Run.{Run, run, turn, passed}
use Rattle.passes.specs.declared.DecorrPass.{DecorrPass}
use Rattle.passes.specs.declared.Direction.{Direction}
use Rattle.passes.specs.declared.Direction.TheVariants.{Decorrelation, Analysis}
use Rattle.passes.specs.declared.Term.{Term}
use Rattle.passes.specs.declared.Term.TheVariants.{Lag, Invalid}

-- a run by the term that the code found is the pass
pub passed-by : (d : Direction) (p : DecorrPass) (l : List ℤ) (u : Term) {t : Term} {r : Run} → t ≡ term_of (to_z w8 (of_z w8 p.term)) → t ≡ u → r ≡ run (turn d u) p 0 l → SFits w8 p.term
    → r ≡ passed d p l
unfolding passed
passed-by d p l u et eu er h = er ∙ ap (λ k. run (turn d k) p 0 l) (sym eu ∙ et ∙ ap term_of (to_z-of_z w8 _ h))

-- a term that is not valid is run as a lag of 0
pub invalid_run : (d : Direction) (p : DecorrPass) (m : ℕ) (l : List ℤ) → run (turn d (Lag 0)) p m l ≡ run (turn d Invalid) p m l
unfolding step unstep advanced
invalid_run Analysis p m [] = refl
invalid_run Analysis p m (x ∷ []) = refl
invalid_run Analysis p m (x ∷ (y ∷ l)) = rw (invalid_run Analysis (turn Analysis Invalid p m x y).pass (suc m) l)
invalid_run Decorrelation p m [] = refl
invalid_run Decorrelation p m (x ∷ []) = refl
invalid_run Decorrelation p m (x ∷ (y ∷ l)) = rw (invalid_run Decorrelation (turn Decorrelation Invalid p m x y).pass (suc m) l)
