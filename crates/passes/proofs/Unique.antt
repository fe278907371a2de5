-- Every recording has exactly one residual list under given passes, and analysis finds it (D3.1,
-- D3.2, D3.3). The passes are any, whatever their weights, deltas and histories hold. Assumes
-- nothing.
use mathlib.Core.Path.{◌≡◌, sym, ap, ◌∙◌}
use mathlib.Core.List.{List}
use Prim.Native.Nat.{ℕ}
use lib.IntN.{ℤ}
use mir.Syntax.{w32}
use mir.Val.{SFits}
use Rattle.passes.specs.Step.{Stepped, Pair, step, unstep}
use Rattle.passes.specs.Run.{Fit, Run, passed, Chain, decorrelated, analysed}
use Rattle.passes.specs.declared.DecorrPass.{DecorrPass}
use Rattle.passes.specs.declared.Direction.TheVariants.{Decorrelation, Analysis}
use Rattle.passes.specs.declared.Term.{Term}
use Rattle.passes.proofs.StepInverse.{Undoes, unstep-step}
use Rattle.passes.proofs.RunInverse.{analysed-fit, analyses_back, analysed-decorrelated, decorrelated-analysed}

abbrev pair_of : Stepped → Pair
pair_of o = record { a = o.a; b = o.b }

-- a step: two pairs of residuals with the same samples are equal
pub step_unique : (t : Term) (p : DecorrPass) (m : ℕ) (x y u v : ℤ) → SFits w32 x → SFits w32 y → SFits w32 u → SFits w32 v
    → pair_of (step t p m x y) ≡ pair_of (step t p m u v) → ◌≡◌ {A = Pair} (record { a = x; b = y }) (record { a = u; b = v })
unfolding Undoes
step_unique t p m x y u v hx hy hu hv e =
    sym (ap pair_of (unstep-step t p m x y hx hy)) ∙ ap (λ (s : Pair). pair_of (unstep t p m s.a s.b)) e ∙ ap pair_of (unstep-step t p m u v hu hv)

-- a pass: two residual lists with the same samples are equal
pub passed_unique : (p : DecorrPass) (r s : List ℤ) → Fit r → Fit s → (passed Decorrelation p r).buffer ≡ (passed Decorrelation p s).buffer → r ≡ s
passed_unique p r s hr hs e =
    sym (ap (λ (o : Run). o.buffer) (analyses_back p r hr)) ∙ ap (λ (l : List ℤ). (passed Analysis p l).buffer) e ∙ ap (λ (o : Run). o.buffer) (analyses_back p s hs)

-- a list of passes: two residual lists that decorrelate to one recording are equal
pub residuals_unique : (ps : List DecorrPass) (r s : List ℤ) → Fit r → Fit s → (decorrelated ps r).buffer ≡ (decorrelated ps s).buffer → r ≡ s
residuals_unique ps r s hr hs e =
    sym (ap (λ (c : Chain). c.buffer) (analysed-decorrelated ps r hr)) ∙ ap (λ (l : List ℤ). (analysed ps l).buffer) e
    ∙ ap (λ (c : Chain). c.buffer) (analysed-decorrelated ps s hs)

-- "A residual list decorrelates to a recording when decorrelation, given the list as the buffer,
-- leaves that recording there" (M3)
abbrev pub DecorrelatesTo : List DecorrPass → List ℤ → List ℤ → Type 0
DecorrelatesTo ps r x = (decorrelated ps r).buffer ≡ x

-- the residuals of a recording: some list r, and no other
pub record OnlyResiduals (ps : List DecorrPass) (x r : List ℤ) : Type 0 where
  pub fit : Fit r
  pub decorrelates : DecorrelatesTo ps r x
  pub only : (s : List ℤ) → Fit s → DecorrelatesTo ps s x → s ≡ r

-- exactly one exists, and analysis finds it
pub analysis_finds : (ps : List DecorrPass) (x : List ℤ) → Fit x → OnlyResiduals ps x (analysed ps x).buffer
analysis_finds ps x h =
    record {
      fit = analysed-fit ps x h;
      decorrelates = ap (λ (c : Chain). c.buffer) (decorrelated-analysed ps x h);
      only = λ s hs e. residuals_unique ps s (analysed ps x).buffer hs (analysed-fit ps x h) (e ∙ sym (ap (λ (c : Chain). c.buffer) (decorrelated-analysed ps x h)));
    }
