-- "A cross weight that starts within ±1024, with delta 0 to 7, stays there" (P9): through a step, a
-- pass and a list, in decorrelation and in analysis. One update is `clip_stays` of `weights`.
-- Assumes nothing.
use mathlib.Core.Path.{◌≡◌, refl, ◌∙◌}
use mathlib.Core.Bool.{true}
use mathlib.Core.List.{List, [], ◌∷◌}
use Prim.Native.Nat.{ℕ, suc, ◌≤◌}
use lib.IntN.{ℤ, pos, nat_abs}
use Rattle.weights.proofs.ClipLaws.{clip_stays}
use Rattle.passes.specs.Terms.{term_of, is_cross}
use Rattle.passes.specs.Step.{Rule, rule_of, advanced, Stepped, step, unstep}
use Rattle.passes.specs.Run.{run, turn, passed, decorrelated, analysed}
use Rattle.passes.specs.declared.DecorrPass.{DecorrPass}
use Rattle.passes.specs.declared.Direction.{Direction}
use Rattle.passes.specs.declared.Direction.TheVariants.{Decorrelation, Analysis}
use Rattle.passes.specs.declared.Term.{Term}

-- delta is 0 to 7, and both weights are within 1024 of 0
pub record Bounded (p : DecorrPass) : Type 0 where
  pub d : ℕ
  pub delta-is : p.delta ≡ pos d
  pub small : d ≤ 7
  pub in_a : nat_abs p.weight_a ≤ 1024
  pub in_b : nat_abs p.weight_b ≤ 1024

-- a step by a cross term
advanced_bounded : (t : Term) → is_cross t ≡ true → (r : Rule) (p : DecorrPass) (a b ra rb : ℤ) → Bounded p → Bounded (advanced t r p a b ra rb)
unfolding advanced
advanced_bounded t e r p a b ra rb h =
    record {
      d = h.d;
      delta-is = h.delta-is;
      small = h.small;
      in_a = rw (e, h.delta-is) (clip_stays p.weight_a h.d (r.source_a b) ra h.in_a h.small);
      in_b = rw (e, h.delta-is) (clip_stays p.weight_b h.d (r.source_b a) rb h.in_b h.small);
    }

-- a step of decorrelation
pub step_bounded : (t : Term) → is_cross t ≡ true → (p : DecorrPass) (m : ℕ) (x y : ℤ) → Bounded p → Bounded (step t p m x y).pass
unfolding step
step_bounded t e p m x y h = advanced_bounded t e (rule_of t p m) p _ _ x y h

-- a step of analysis
pub unstep_bounded : (t : Term) → is_cross t ≡ true → (p : DecorrPass) (m : ℕ) (x y : ℤ) → Bounded p → Bounded (unstep t p m x y).pass
unfolding unstep
unstep_bounded t e p m x y h = advanced_bounded t e (rule_of t p m) p x y _ _ h

turn_bounded : (d : Direction) (t : Term) → is_cross t ≡ true → (p : DecorrPass) (m : ℕ) (x y : ℤ) → Bounded p → Bounded (turn d t p m x y).pass
turn_bounded Analysis t e p m x y h = unstep_bounded t e p m x y h
turn_bounded Decorrelation t e p m x y h = step_bounded t e p m x y h

-- what holds of the pass through each step holds of it through a run
pub run_keeps : (F : DecorrPass → ℕ → ℤ → ℤ → Stepped) (P : DecorrPass → Type 0) → ((p : DecorrPass) (m : ℕ) (x y : ℤ) → P p → P (F p m x y).pass)
    → (p : DecorrPass) (m : ℕ) (l : List ℤ) → P p → P (run F p m l).pass
run_keeps F P f p m [] h = h
run_keeps F P f p m (x ∷ []) h = h
run_keeps F P f p m (x ∷ (y ∷ l)) h = run_keeps F P f (F p m x y).pass (suc m) l (f p m x y h)

-- a step keeps the term
turn-term : (d : Direction) (t : Term) (p : DecorrPass) (m : ℕ) (x y : ℤ) → (turn d t p m x y).pass.term ≡ p.term
unfolding step unstep advanced
turn-term Analysis t p m x y = refl
turn-term Decorrelation t p m x y = refl

-- a pass over a buffer keeps its term
pub passed-term : (d : Direction) (p : DecorrPass) (l : List ℤ) → (passed d p l).pass.term ≡ p.term
unfolding passed
passed-term d p l =
    run_keeps (turn d (term_of p.term)) (λ q. q.term ≡ p.term) (λ q m x y h. turn-term d (term_of p.term) q m x y ∙ h) p 0 l refl

-- where a pass is a cross pass, it is bounded
abbrev pub CrossBounded : DecorrPass → Type 0
CrossBounded p = is_cross (term_of p.term) ≡ true → Bounded p

-- a pass over a buffer
pub passed_bounded : (d : Direction) (p : DecorrPass) (l : List ℤ) → CrossBounded p → CrossBounded (passed d p l).pass
unfolding passed
passed_bounded d p l h e =
    let c : is_cross (term_of p.term) ≡ true = rw (← passed-term d p l) e in
    run_keeps (turn d (term_of p.term)) Bounded (turn_bounded d (term_of p.term) c) p 0 l (h c)

-- a list of passes
abbrev pub AllBounded : List DecorrPass → Type 0
AllBounded [] = Unit {0}
AllBounded (p ∷ ps) = CrossBounded p × AllBounded ps

-- through decorrelation
pub decorrelated_bounded : (ps : List DecorrPass) (l : List ℤ) → AllBounded ps → AllBounded (decorrelated ps l).passes
decorrelated_bounded [] l h = tt
decorrelated_bounded (p ∷ ps) l h = (passed_bounded Decorrelation p l h.0, decorrelated_bounded ps (passed Decorrelation p l).buffer h.1)

-- through analysis
pub analysed_bounded : (ps : List DecorrPass) (l : List ℤ) → AllBounded ps → AllBounded (analysed ps l).passes
analysed_bounded [] l h = tt
analysed_bounded (p ∷ ps) l h = (passed_bounded Analysis p (analysed ps l).buffer h.0, analysed_bounded ps l h.1)
