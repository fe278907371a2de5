-- Analysis and decorrelation undo one another, a pass and a list of passes at a time, with equal
-- pass states, whatever the passes hold (P12). Assumes nothing.
use mathlib.Core.Path.{◌≡◌, refl, ap, ◌∙◌}
use mathlib.Core.List.{List, [], ◌∷◌}
use Prim.Native.Nat.{ℕ, suc}
use lib.IntN.{ℤ}
use lib.ListN.{length}
use Rattle.passes.specs.Terms.{term_of}
use Rattle.passes.specs.Step.{Stepped}
use Rattle.passes.specs.Run.{Fit, run, turn, passed, decorrelated, analysed}
use Rattle.passes.specs.declared.DecorrPass.{DecorrPass}
use Rattle.passes.specs.declared.Direction.{Direction}
use Rattle.passes.specs.declared.Direction.TheVariants.{Decorrelation, Analysis}
use Rattle.passes.specs.declared.Term.{Term}
use Rattle.passes.proofs.StepInverse.{Undoes, Fitting, step-unstep, unstep-step, step_fits, unstep-fits}

-- ---- a pass from any history index
run_undone : (F G : DecorrPass → ℕ → ℤ → ℤ → Stepped) → Undoes F G → (p : DecorrPass) (m : ℕ) (l : List ℤ) → Fit l → run F p m (run G p m l).buffer ≡ record { pass = (run G p m l).pass; buffer = l }
unfolding Undoes
run_undone F G u p m [] h = refl
run_undone F G u p m (x ∷ []) h = refl
run_undone F G u p m (x ∷ (y ∷ l)) h = rw (u p m x y h.0 h.1.0, run_undone F G u (G p m x y).pass (suc m) l h.1.1)

run-fit : (F : DecorrPass → ℕ → ℤ → ℤ → Stepped) → Fitting F → (p : DecorrPass) (m : ℕ) (l : List ℤ) → Fit l → Fit (run F p m l).buffer
unfolding Fitting
run-fit F f p m [] h = tt
run-fit F f p m (x ∷ []) h = h
run-fit F f p m (x ∷ (y ∷ l)) h = ((f p m x y).0, ((f p m x y).1, run-fit F f (F p m x y).pass (suc m) l h.1.1))

run_length_lem : (F : DecorrPass → ℕ → ℤ → ℤ → Stepped) (p : DecorrPass) (m : ℕ) (l : List ℤ) → length (run F p m l).buffer ≡ length l
run_length_lem F p m [] = refl
run_length_lem F p m (x ∷ []) = refl
run_length_lem F p m (x ∷ (y ∷ l)) = ap (λ n. suc (suc n)) (run_length_lem F (F p m x y).pass (suc m) l)

turn-fits : (d : Direction) (t : Term) → Fitting (turn d t)
unfolding Fitting
turn-fits Analysis t p m x y = unstep-fits t p m x y
turn-fits Decorrelation t p m x y = step_fits t p m x y

-- one direction of a pass undoes the other: the pass's term is the same at both ends
pass_undone : (d other : Direction) → ((t : Term) → Undoes (turn d t) (turn other t)) → (p : DecorrPass) (l : List ℤ) → Fit l
    → passed d p (passed other p l).buffer ≡ record { pass = (passed other p l).pass; buffer = l }
unfolding passed
pass_undone d other u p l h = run_undone (turn d (term_of p.term)) (turn other (term_of p.term)) (u (term_of p.term)) p 0 l h

-- a pass: analysis, then decorrelation
pub decorrelates-back : (p : DecorrPass) (l : List ℤ) → Fit l → passed Decorrelation p (passed Analysis p l).buffer ≡ record { pass = (passed Analysis p l).pass; buffer = l }
decorrelates-back p l h = pass_undone Decorrelation Analysis step-unstep p l h

-- a pass: decorrelation, then analysis
pub analyses_back : (p : DecorrPass) (l : List ℤ) → Fit l → passed Analysis p (passed Decorrelation p l).buffer ≡ record { pass = (passed Decorrelation p l).pass; buffer = l }
analyses_back p l h = pass_undone Analysis Decorrelation unstep-step p l h

-- a pass leaves 32-bit numbers
pub passed-fit : (d : Direction) (p : DecorrPass) (l : List ℤ) → Fit l → Fit (passed d p l).buffer
unfolding passed
passed-fit d p l h = run-fit (turn d (term_of p.term)) (turn-fits d (term_of p.term)) p 0 l h

-- a pass keeps the length
pub passed_length : (d : Direction) (p : DecorrPass) (l : List ℤ) → length (passed d p l).buffer ≡ length l
unfolding passed
passed_length d p l = run_length_lem (turn d (term_of p.term)) p 0 l

-- ---- a list of passes
pub decorrelated-fit : (ps : List DecorrPass) (l : List ℤ) → Fit l → Fit (decorrelated ps l).buffer
decorrelated-fit [] l h = h
decorrelated-fit (p ∷ ps) l h = decorrelated-fit ps (passed Decorrelation p l).buffer (passed-fit Decorrelation p l h)

-- analysis leaves 32-bit numbers
pub analysed-fit : (ps : List DecorrPass) (l : List ℤ) → Fit l → Fit (analysed ps l).buffer
analysed-fit [] l h = h
analysed-fit (p ∷ ps) l h = passed-fit Analysis p (analysed ps l).buffer (analysed-fit ps l h)

-- decorrelation keeps the length
pub decorrelated-length : (ps : List DecorrPass) (l : List ℤ) → length (decorrelated ps l).buffer ≡ length l
decorrelated-length [] l = refl
decorrelated-length (p ∷ ps) l = decorrelated-length ps (passed Decorrelation p l).buffer ∙ passed_length Decorrelation p l

-- analysis keeps the length
pub analysed-length : (ps : List DecorrPass) (l : List ℤ) → length (analysed ps l).buffer ≡ length l
analysed-length [] l = refl
analysed-length (p ∷ ps) l = passed_length Analysis p (analysed ps l).buffer ∙ analysed-length ps l

-- decorrelating what analysis left returns the recording, and leaves the passes that analysis left
pub decorrelated-analysed : (ps : List DecorrPass) (l : List ℤ) → Fit l → decorrelated ps (analysed ps l).buffer ≡ record { passes = (analysed ps l).passes; buffer = l }
decorrelated-analysed [] l h = refl
decorrelated-analysed (p ∷ ps) l h = rw (decorrelates-back p (analysed ps l).buffer (analysed-fit ps l h), decorrelated-analysed ps l h)

-- analysing what decorrelation left returns the residuals, and leaves the passes that decorrelation
-- left
pub analysed-decorrelated : (ps : List DecorrPass) (l : List ℤ) → Fit l → analysed ps (decorrelated ps l).buffer ≡ record { passes = (decorrelated ps l).passes; buffer = l }
analysed-decorrelated [] l h = refl
analysed-decorrelated (p ∷ ps) l h = rw (analysed-decorrelated ps (passed Decorrelation p l).buffer (passed-fit Decorrelation p l h), analyses_back p l h)
