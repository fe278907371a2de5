-- What the code's tests of a signed number's bits tell of the number.
-- Assumes nothing.
use mathlib.Core.Path.{◌≡◌, sym, ◌∙◌}
use mathlib.Core.Bool.{Bool}
use lib.Dec.{leb-suc-zero}
use lib.IntN.{ℤ, pos, negsuc}
use lib.Signed.{lt_z}
use mir.Syntax.{w32}
use mir.Val.{SFits, to_z, of_z}
use mir.ValLaws.{to_z-of_z}
use Rattle.entropy.specs.Seed.{is_negative}

-- a number is negative where the code finds it below 0
pub negative-bits : (z : ℤ) → SFits w32 z → lt_z (to_z w32 (of_z w32 z)) (pos 0) ≡ is_negative z
negative-bits (pos n) f = rw (to_z-of_z w32 (pos n) f) (leb-suc-zero n)
negative-bits (negsuc n) f = rw (to_z-of_z w32 (negsuc n) f)

pub negative-by : (z : ℤ) → SFits w32 z → {b : Bool} → lt_z (to_z w32 (of_z w32 z)) (pos 0) ≡ b → is_negative z ≡ b
negative-by z f e = sym (negative-bits z f) ∙ e
