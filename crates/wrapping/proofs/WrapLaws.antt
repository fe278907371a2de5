-- The laws of numbers kept to 32 bits: which numbers they are, and that wrapping sums and
-- differences undo one another. Assumes nothing.
use mathlib.Core.Path.{◌≡◌, refl, sym, ap, ◌∙◌}
use mathlib.Core.Bool.{Bool, true, false, not, cond}
use Prim.Native.Nat.{ℕ, zero, suc, ◌+◌, ◌-◌, ◌*◌, ◌/◌, ◌%◌, ◌<◌, ◌≤◌}
use native.Mathlib.Nat.{add-mul, mul_assoc}
use native.Mathlib.Omega.{arith}
use lib.IntN.{ℤ, pos, negsuc, neg_ℤ, sub_ℕ, ◌+ℤ◌, ◌-ℤ◌, ◌*ℤ◌, +ℤ_comm, -ℤ-+ℤ_cancel, +ℤ-neg_ℤ_cancel}
use lib.Dec.{T, ltb, ltb→lt, nltb→le}
use lib.Bits.{bit_and, and_mask}
use mir.Syntax.{w32, w64}
use mir.Val.{to_z, of_z, SFits}
use mir.ValLaws.{to_z_pos, to_z-of_z, of_z-to_z, to_z-Fits}
use Rattle.wrapping.specs.Wrap.{low32, wrap32}

-- a choice, by its test
pub cond_cases : (c : Bool) (x y : ℤ) (P : ℤ → Type 0) → (T c → P x) → (T (not c) → P y) → P (cond c x y)
cond_cases true x y P f g = f tt
cond_cases false x y P f g = g tt

-- the difference of two natural numbers, by its sign
pub sub_cases : (a b : ℕ) (P : ℤ → Type 0) → (a < b → P (negsuc (b - suc a))) → (b ≤ a → P (pos (a - b))) → P (sub_ℕ a b)
sub_cases a b P f g = cond_cases (ltb a b) _ _ P (λ t. f (ltb→lt a b t)) (λ t. g (nltb→le a b t))

-- the low bits are below 2 to the 32
pub low32_lt : (z : ℤ) → low32 z < 4294967296
unfolding low32
low32_lt (pos n) = omega arith
low32_lt (negsuc n) = omega arith

-- the low bits of a 32-bit number are its pattern
pub low32_of : (z : ℤ) → SFits w32 z → low32 z ≡ of_z w32 z
unfolding low32
low32_of (pos n) h = omega arith
low32_of (negsuc n) h = omega arith

low32_of64 : (z : ℤ) → SFits w64 z → low32 z ≡ of_z w64 z % 4294967296
unfolding low32
low32_of64 (pos n) h = refl
low32_of64 (negsuc n) h = omega arith

-- the mask of 32 ones keeps the low bits of a 64-bit number
pub masked : (z : ℤ) → SFits w64 z → to_z w64 (bit_and (of_z w64 z) 4294967295) ≡ pos (low32 z)
masked z h = rw (and_mask (of_z w64 z) 32, ← low32_of64 z h) (to_z_pos w64 (low32 z) (omega (arith, low32_lt z)))

low32-sub : (a b : ℕ) → low32 (sub_ℕ a (suc b)) ≡ (a % 4294967296 + (4294967295 - b % 4294967296)) % 4294967296
unfolding low32
low32-sub a b = sub_cases a (suc b) (λ z. low32 z ≡ (a % 4294967296 + (4294967295 - b % 4294967296)) % 4294967296) (λ h. omega arith) (λ h. omega arith)

-- the low bits of a sum come from the low bits
pub low32-add : (a b : ℤ) → low32 (a +ℤ b) ≡ (low32 a + low32 b) % 4294967296
unfolding low32
low32-add (pos a) (pos b) = omega arith
low32-add (pos a) (negsuc b) = low32-sub a b
low32-add (negsuc a) (pos b) = low32-sub b a ∙ omega arith
low32-add (negsuc a) (negsuc b) = omega arith

-- the low bits of a negation come from the low bits
pub low32_neg : (z : ℤ) → low32 (neg_ℤ z) ≡ (4294967296 - low32 z) % 4294967296
unfolding low32
low32_neg (pos zero) = refl
low32_neg (pos (suc n)) = omega arith
low32_neg (negsuc n) = omega arith

-- a product splits into whole turns of 2 to the 32 and the rest
turns : (q r m : ℕ) → (4294967296 * q + r) * m ≡ 4294967296 * (q * m) + r * m
turns q r m = add-mul (4294967296 * q) r m ∙ ap (λ (n : ℕ). n + r * m) (mul_assoc 4294967296 q m)

-- the low bits of a product come from the low bits
pub low32_mul : (z : ℤ) (m : ℕ) → low32 (z *ℤ pos m) ≡ low32 z * m % 4294967296
unfolding low32
low32_mul (pos n) m =
    let e : n ≡ 4294967296 * (n / 4294967296) + n % 4294967296 = omega arith in
    let f : n * m ≡ 4294967296 * (n / 4294967296 * m) + n % 4294967296 * m = ap (λ (x : ℕ). x * m) e ∙ turns (n / 4294967296) (n % 4294967296) m in
    omega (arith, f)
low32_mul (negsuc n) m =
    let r = 4294967295 - n % 4294967296 in
    let t = suc (n / 4294967296) in
    let e : 4294967296 * t + 0 ≡ r + suc n = omega arith in
    let f : r * m + suc n * m ≡ 4294967296 * (t * m) + 0 * m = sym (add-mul r (suc n) m) ∙ ap (λ (x : ℕ). x * m) (sym e) ∙ turns t 0 m in
    low32_neg (pos (suc n * m)) ∙ omega (arith, f)

-- a number kept to 32 bits is a 32-bit number
pub wrap_fits : (z : ℤ) → SFits w32 (wrap32 z)
unfolding wrap32
wrap_fits z = to_z-Fits w32 (low32 z) (record { fits = low32_lt z })

-- a 32-bit number is kept as it is
pub wrap_id : (z : ℤ) → SFits w32 z → wrap32 z ≡ z
unfolding wrap32
wrap_id z h = ap (to_z w32) (low32_of z h) ∙ to_z-of_z w32 z h

-- wrapping keeps the low bits
pub low32_wrap : (z : ℤ) → low32 (wrap32 z) ≡ low32 z
unfolding wrap32
low32_wrap z = low32_of (wrap32 z) (wrap_fits z) ∙ of_z-to_z w32 (low32 z) (record { fits = low32_lt z })

-- equal low bits wrap to equal numbers
pub wrap_cong : (a b : ℤ) → low32 a ≡ low32 b → wrap32 a ≡ wrap32 b
unfolding wrap32
wrap_cong a b e = ap (to_z w32) e

-- a summand may be wrapped first
pub wrap_add : (a b : ℤ) → wrap32 (a +ℤ wrap32 b) ≡ wrap32 (a +ℤ b)
wrap_add a b = wrap_cong _ _ (rw (low32-add a (wrap32 b), low32-add a b, low32_wrap))

-- what is negated may be wrapped first
pub wrap_neg : (z : ℤ) → wrap32 (neg_ℤ (wrap32 z)) ≡ wrap32 (neg_ℤ z)
wrap_neg z = wrap_cong _ _ (rw (low32_neg (wrap32 z), low32_neg z, low32_wrap))

-- subtract, then add: what a wrapping difference took away, a wrapping sum brings back
pub add-sub : (p s : ℤ) → SFits w32 s → wrap32 (p +ℤ wrap32 (s -ℤ p)) ≡ s
add-sub p s h = wrap_add p (s -ℤ p) ∙ ap wrap32 (+ℤ_comm p (s -ℤ p) ∙ -ℤ-+ℤ_cancel s p) ∙ wrap_id s h

-- add, then subtract: what a wrapping sum added, a wrapping difference takes away
pub sub-add : (p r : ℤ) → SFits w32 r → wrap32 (wrap32 (p +ℤ r) -ℤ p) ≡ r
sub-add p r h =
    ap wrap32 (+ℤ_comm (wrap32 (p +ℤ r)) (neg_ℤ p)) ∙ wrap_add (neg_ℤ p) (p +ℤ r)
    ∙ ap wrap32 (+ℤ_comm (neg_ℤ p) (p +ℤ r) ∙ ap (λ x. x -ℤ p) (+ℤ_comm p r) ∙ +ℤ-neg_ℤ_cancel r p) ∙ wrap_id r h
