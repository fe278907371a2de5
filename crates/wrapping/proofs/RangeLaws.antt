-- Sums, differences and products of 32-bit numbers fit 64 bits, and so does what a right shift
-- leaves. Assumes nothing.
use mathlib.Core.Path.{◌≡◌, refl}
use Prim.Native.Nat.{ℕ, zero, suc, ◌+◌, ◌*◌, ◌≤◌}
use native.Mathlib.Omega.{arith}
use native.Mathlib.Nat.{le_trans, mul-le-mul_right, mul-le-mul_left}
use lib.IntN.{ℤ, pos, negsuc, neg_ℤ, nat_abs, ◌+ℤ◌, ◌-ℤ◌, ◌*ℤ◌}
use lib.Signed.{mag, nat_abs-le, shr_z, mag_shr}
use mir.Syntax.{Width, w32, w64}
use mir.Val.{SFits}
use mir.ValLaws.{sfits_le}
use Rattle.wrapping.specs.Wrap.{floor_div}
use Rattle.wrapping.proofs.WrapLaws.{sub_cases}

-- a 32-bit number is a 64-bit number
pub widen : {z : ℤ} → SFits w32 z → SFits w64 z
widen h = record { sfits = omega (arith, h.sfits) }

-- the size of a sum
pub mag-add : (a b : ℤ) → mag (a +ℤ b) ≤ suc (mag a + mag b)
mag-add (pos a) (pos b) = omega arith
mag-add (pos a) (negsuc b) = sub_cases a (suc b) (λ z. mag z ≤ suc (a + b)) (λ h. omega arith) (λ h. omega arith)
mag-add (negsuc a) (pos b) = sub_cases b (suc a) (λ z. mag z ≤ suc (a + b)) (λ h. omega arith) (λ h. omega arith)
mag-add (negsuc a) (negsuc b) = omega arith

mag_neg : (a : ℤ) → mag (neg_ℤ a) ≤ suc (mag a)
mag_neg (pos zero) = omega arith
mag_neg (pos (suc n)) = omega arith
mag_neg (negsuc n) = omega arith

-- a sum of 32-bit numbers fits 64 bits
pub add_fits64 : (a b : ℤ) → SFits w32 a → SFits w32 b → SFits w64 (a +ℤ b)
add_fits64 a b ha hb = record { sfits = omega (arith, mag-add a b, ha.sfits, hb.sfits) }

-- a difference of 32-bit numbers fits 64 bits
pub sub_fits64 : (a b : ℤ) → SFits w32 a → SFits w32 b → SFits w64 (a -ℤ b)
sub_fits64 a b ha hb = record { sfits = omega (arith, mag-add a (neg_ℤ b), mag_neg b, ha.sfits, hb.sfits) }

-- a negation of a 32-bit number fits 64 bits
pub neg_fits64 : (a : ℤ) → SFits w32 a → SFits w64 (neg_ℤ a)
neg_fits64 a h = record { sfits = omega (arith, mag_neg a, h.sfits) }

mag_abs : (a : ℤ) → mag a ≤ nat_abs a
mag_abs (pos n) = omega arith
mag_abs (negsuc n) = omega arith

pub neg_abs : (n : ℕ) → nat_abs (neg_ℤ (pos n)) ≡ n
neg_abs zero = refl
neg_abs (suc n) = refl

abs_mul : (a b : ℤ) → nat_abs (a *ℤ b) ≡ nat_abs a * nat_abs b
abs_mul (pos a) (pos b) = refl
abs_mul (pos a) (negsuc b) = neg_abs (a * suc b)
abs_mul (negsuc a) (pos b) = neg_abs (suc a * b)
abs_mul (negsuc a) (negsuc b) = refl

-- the size of a product of 32-bit numbers
pub mul_mag : (a b : ℤ) → SFits w32 a → SFits w32 b → mag (a *ℤ b) ≤ 2147483648 * 2147483648
mul_mag a b ha hb =
    le_trans (mag_abs (a *ℤ b)) (rw abs_mul (le_trans (mul-le-mul_right (nat_abs b) (nat_abs-le a ha.sfits)) (mul-le-mul_left 2147483648 (nat_abs-le b hb.sfits))))

-- a product of 32-bit numbers fits 64 bits
pub mul_fits64 : (a b : ℤ) → SFits w32 a → SFits w32 b → SFits w64 (a *ℤ b)
mul_fits64 a b ha hb = record { sfits = omega (arith, mul_mag a b ha hb) }

-- the machine's right shift is the division that rounds down
pub shift_floor : (z : ℤ) (m : ℕ) → shr_z z m ≡ floor_div z m
shift_floor (pos n) m = refl
shift_floor (negsuc n) m = refl

-- what a right shift leaves fits where the number did
pub floor_fits : (w : Width) (z : ℤ) (m : ℕ) → SFits w z → SFits w (floor_div z m)
floor_fits w z m h = rw (← shift_floor z m) (sfits_le (mag_shr z m) h)
