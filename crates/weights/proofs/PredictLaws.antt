-- The laws of a prediction: it is worked out within 64 bits, and sample and residual undo one
-- another. Assumes nothing.
use mathlib.Core.Path.{◌≡◌}
use native.Mathlib.Omega.{arith}
use lib.IntN.{ℤ, pos, ◌+ℤ◌, ◌*ℤ◌}
use mir.Syntax.{w32, w64}
use mir.Val.{SFits}
use Rattle.wrapping.proofs.WrapLaws.{add-sub, sub-add, wrap_fits}
use Rattle.wrapping.proofs.RangeLaws.{mag-add, mul_mag}
use Rattle.weights.specs.Weights.{predict, sample, residual}

-- the sum that is shifted fits 64 bits
pub biased_fits64 : (a b : ℤ) → SFits w32 a → SFits w32 b → SFits w64 (a *ℤ b +ℤ pos 512)
biased_fits64 a b ha hb = record { sfits = omega (arith, mag-add (a *ℤ b) (pos 512), mul_mag a b ha hb) }

-- a sample is a 32-bit number
pub sample-fits : (w s r : ℤ) → SFits w32 (sample w s r)
unfolding sample
sample-fits w s r = wrap_fits _

-- a residual is a 32-bit number
pub residual-fits : (w s x : ℤ) → SFits w32 (residual w s x)
unfolding residual
residual-fits w s x = wrap_fits _

-- the residual of a sample gives that sample
pub sample-residual : (w s x : ℤ) → SFits w32 x → sample w s (residual w s x) ≡ x
unfolding sample residual
sample-residual w s x h = add-sub (predict w s) x h

-- the sample of a residual has that residual
pub residual-sample : (w s r : ℤ) → SFits w32 r → residual w s (sample w s r) ≡ r
unfolding sample residual
residual-sample w s r h = sub-add (predict w s) r h
