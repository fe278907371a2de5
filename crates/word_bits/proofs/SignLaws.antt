-- The sign bit of a residual, by the code's test of its sign.
-- Assumes nothing.
use mathlib.Core.Path.{◌≡◌, refl}
use mathlib.Core.Bool.{true, false}
use native.Mathlib.Omega.{arith}
use borrow.Author.Tests.{ltb-true}
use lib.IntN.{ℤ, pos, negsuc}
use lib.Signed.{lt_z}
use Rattle.answers.proofs.TestLaws.{clash}
use Rattle.word_bits.specs.Residuals.{sign}

-- a residual below 0 has sign bit 1
pub sign_neg : (v : ℤ) → lt_z v (pos 0) ≡ true → 1 ≡ sign v
sign_neg (pos n) e = absurd (omega (arith, ltb-true n 0 e))
sign_neg (negsuc n) e = refl

-- any other has sign bit 0
pub sign_pos : (v : ℤ) → lt_z v (pos 0) ≡ false → 0 ≡ sign v
sign_pos (pos n) e = refl
sign_pos (negsuc n) e = clash refl e
