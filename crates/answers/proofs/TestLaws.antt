-- What two tests tell together.
-- Assumes nothing.
use mathlib.Core.Path.{◌≡◌, refl, sym, ◌∙◌}
use mathlib.Core.Bool.{Bool, true, false, ◌&&◌, ◌||◌}
use Prim.Native.Nat.{ℕ}
use native.Mathlib.Omega.{arith}

-- a test does not both hold and fail
pub clash : {A : Type 0} {b : Bool} → b ≡ true → b ≡ false → A
clash {b = b} e f = let z : ◌≡◌ {A = Bool} true false = sym e ∙ f in absurd (let n : ◌≡◌ {A = ℕ} 0 1 = cc in omega arith)

-- two tests that hold together hold each
pub both : (a b : Bool) → (a && b) ≡ true → (a ≡ true) × (b ≡ true)
both true b e = (refl, e)
both false b e = clash e refl

-- two tests of which none holds both fail
pub neither : (a b : Bool) → (a || b) ≡ false → (a ≡ false) × (b ≡ false)
neither true b e = clash refl e
neither false b e = (refl, e)
