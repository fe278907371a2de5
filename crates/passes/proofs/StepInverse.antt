-- A step of analysis and a step of decorrelation undo one another, for every term (P12). Assumes
-- nothing.
use mathlib.Core.Path.{◌≡◌, refl}
use mathlib.Core.Bool.{Bool, true, false}
use Prim.Native.Nat.{ℕ}
use lib.IntN.{ℤ, pos}
use mir.Syntax.{w32}
use mir.Val.{SFits}
use Rattle.weights.proofs.PredictLaws.{sample-fits, residual-fits, sample-residual, residual-sample}
use Rattle.passes.specs.Step.{Rule, rule_of, advanced, samples_by, residuals_by, Stepped, step, unstep}
use Rattle.passes.specs.declared.DecorrPass.{DecorrPass}
use Rattle.passes.specs.declared.Term.{Term}
use Rattle.passes.specs.declared.Term.TheVariants.{Lag, Seventeen, Eighteen, MinusOne, MinusTwo, MinusThree, Invalid}

-- F, given what G left in a frame, leaves there what G was given, and the pass that G left
unfoldable pub Undoes : (DecorrPass → ℕ → ℤ → ℤ → Stepped) → (DecorrPass → ℕ → ℤ → ℤ → Stepped) → Type 0
Undoes F G = (p : DecorrPass) (m : ℕ) (x y : ℤ) → SFits w32 x → SFits w32 y → F p m (G p m x y).a (G p m x y).b ≡ record { pass = (G p m x y).pass; a = x; b = y }

-- what a step leaves are 32-bit numbers
unfoldable pub Fitting : (DecorrPass → ℕ → ℤ → ℤ → Stepped) → Type 0
Fitting F = (p : DecorrPass) (m : ℕ) (x y : ℤ) → SFits w32 (F p m x y).a × SFits w32 (F p m x y).b

module _ (t : Term) (r : Rule) (p : DecorrPass) (x y : ℤ) (hx : SFits w32 x) (hy : SFits w32 y) where
  -- the two steps by a rule
  abbrev stepped : Bool → ℤ → ℤ → Stepped
  stepped b ra rb = let s = samples_by b r p ra rb in record { pass = advanced t r p s.a s.b ra rb; a = s.a; b = s.b }

  abbrev unstepped : ℤ → ℤ → Stepped
  unstepped a b = let e = residuals_by r p a b in record { pass = advanced t r p a b e.a e.b; a = e.a; b = e.b }

  -- analysis, then decorrelation: with A first, and with B first
  a_first : ((z : ℤ) → r.source_a z ≡ r.source_a (pos 0)) → let o = unstepped x y in stepped false o.a o.b ≡ record { pass = o.pass; a = x; b = y }
  a_first h = rw (h y, sample-residual p.weight_a (r.source_a (pos 0)) x hx, sample-residual p.weight_b (r.source_b x) y hy)

  b_first_lem : ((z : ℤ) → r.source_b z ≡ r.source_b (pos 0)) → let o = unstepped x y in stepped true o.a o.b ≡ record { pass = o.pass; a = x; b = y }
  b_first_lem h = rw (h x, sample-residual p.weight_b (r.source_b (pos 0)) y hy, sample-residual p.weight_a (r.source_a y) x hx)

  -- decorrelation, then analysis
  a_first-back : ((z : ℤ) → r.source_a z ≡ r.source_a (pos 0)) → let o = stepped false x y in unstepped o.a o.b ≡ record { pass = o.pass; a = x; b = y }
  a_first-back h =
      rw (h (stepped false x y).b, residual-sample p.weight_a (r.source_a (pos 0)) x hx, residual-sample p.weight_b (r.source_b (stepped false x y).a) y hy)

  b_first-back : ((z : ℤ) → r.source_b z ≡ r.source_b (pos 0)) → let o = stepped true x y in unstepped o.a o.b ≡ record { pass = o.pass; a = x; b = y }
  b_first-back h =
      rw (h (stepped true x y).a, residual-sample p.weight_b (r.source_b (pos 0)) y hy, residual-sample p.weight_a (r.source_a (stepped true x y).b) x hx)

-- analysing a frame, then decorrelating it, returns its samples and leaves the pass that analysis
-- left
pub step-unstep : (t : Term) → Undoes (step t) (unstep t)
unfolding Undoes step unstep
step-unstep (Lag t) p m x y hx hy = a_first (Lag t) (rule_of (Lag t) p m) p x y hx hy (λ z. refl)
step-unstep Seventeen p m x y hx hy = a_first Seventeen (rule_of Seventeen p m) p x y hx hy (λ z. refl)
step-unstep Eighteen p m x y hx hy = a_first Eighteen (rule_of Eighteen p m) p x y hx hy (λ z. refl)
step-unstep MinusOne p m x y hx hy = a_first MinusOne (rule_of MinusOne p m) p x y hx hy (λ z. refl)
step-unstep MinusTwo p m x y hx hy = b_first_lem MinusTwo (rule_of MinusTwo p m) p x y hx hy (λ z. refl)
step-unstep MinusThree p m x y hx hy = a_first MinusThree (rule_of MinusThree p m) p x y hx hy (λ z. refl)
step-unstep Invalid p m x y hx hy = a_first Invalid (rule_of Invalid p m) p x y hx hy (λ z. refl)

-- decorrelating a frame, then analysing it, returns its residuals and leaves the pass that
-- decorrelation left
pub unstep-step : (t : Term) → Undoes (unstep t) (step t)
unfolding Undoes step unstep
unstep-step (Lag t) p m x y hx hy = a_first-back (Lag t) (rule_of (Lag t) p m) p x y hx hy (λ z. refl)
unstep-step Seventeen p m x y hx hy = a_first-back Seventeen (rule_of Seventeen p m) p x y hx hy (λ z. refl)
unstep-step Eighteen p m x y hx hy = a_first-back Eighteen (rule_of Eighteen p m) p x y hx hy (λ z. refl)
unstep-step MinusOne p m x y hx hy = a_first-back MinusOne (rule_of MinusOne p m) p x y hx hy (λ z. refl)
unstep-step MinusTwo p m x y hx hy = b_first-back MinusTwo (rule_of MinusTwo p m) p x y hx hy (λ z. refl)
unstep-step MinusThree p m x y hx hy = a_first-back MinusThree (rule_of MinusThree p m) p x y hx hy (λ z. refl)
unstep-step Invalid p m x y hx hy = a_first-back Invalid (rule_of Invalid p m) p x y hx hy (λ z. refl)

by_fits : (b : Bool) (r : Rule) (p : DecorrPass) (x y : ℤ) → SFits w32 (samples_by b r p x y).a × SFits w32 (samples_by b r p x y).b
by_fits true r p x y = (sample-fits _ _ _, sample-fits _ _ _)
by_fits false r p x y = (sample-fits _ _ _, sample-fits _ _ _)

-- samples are 32-bit numbers
pub step_fits : (t : Term) → Fitting (step t)
unfolding Fitting step
step_fits t p m x y = by_fits (rule_of t p m).b_first (rule_of t p m) p x y

-- residuals are 32-bit numbers
pub unstep-fits : (t : Term) → Fitting (unstep t)
unfolding Fitting unstep
unstep-fits t p m x y = (residual-fits _ _ _, residual-fits _ _ _)
