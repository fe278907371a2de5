-- What the code's test of a number's sign tells: the number, or -1 less it, is its magnitude, and
-- the distance from 0 is the magnitude or one more.
-- Assumes nothing.
use mathlib.Core.Path.{◌≡◌, refl, ap}
use mathlib.Core.Bool.{true, false}
use Prim.Native.Nat.{ℕ, suc, ◌+◌}
use native.Mathlib.Omega.{arith}
use borrow.Author.Tests.{le-ltb, ltb-true}
use lib.IntN.{ℤ, pos, negsuc, nat_abs, ◌-ℤ◌}
use lib.Signed.{mag, lt_z}

-- -1 less a number below 0 is its magnitude
pub neg_is : (v : ℤ) → lt_z v (pos 0) ≡ true → negsuc 0 -ℤ v ≡ pos (mag v)
neg_is (pos n) e = absurd (omega (arith, ltb-true n 0 e))
neg_is (negsuc n) e = rw (le-ltb (suc n) 1 (omega arith)) (ap pos (omega arith))

-- any other number is its magnitude
pub pos-is : (v : ℤ) → lt_z v (pos 0) ≡ false → v ≡ pos (mag v)
pos-is (pos n) e = refl
pos-is (negsuc n) e = absurd (let z : ◌≡◌ {A = ℕ} 0 1 = cc in omega arith)

-- a negative number is one further from 0 than its magnitude
pub neg_distance : (v : ℤ) → lt_z v (pos 0) ≡ true → mag v + 1 ≡ nat_abs v
neg_distance (pos n) e = absurd (omega (arith, ltb-true n 0 e))
neg_distance (negsuc n) e = omega arith

-- any other is as far as its magnitude
pub pos-distance : (v : ℤ) → lt_z v (pos 0) ≡ false → mag v ≡ nat_abs v
pos-distance (pos n) e = refl
pos-distance (negsuc n) e = absurd (let z : ◌≡◌ {A = ℕ} 0 1 = cc in omega arith)
