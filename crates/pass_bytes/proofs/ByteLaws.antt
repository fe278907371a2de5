-- The laws of the term byte and the weight byte: what the code computes is what document 01 says,
-- and the range of a weight. Assumes nothing.
use mathlib.Core.Path.{◌≡◌, refl, ap, ◌∙◌}
use Prim.Native.Nat.{ℕ, zero, suc, ◌+◌, ◌-◌, ◌*◌, ◌/◌, ◌%◌, ◌<◌, ◌≤◌}
use native.Mathlib.Omega.{arith}
use lib.IntN.{ℤ, pos, negsuc, neg_ℤ, nat_abs, ◌-ℤ◌, +ℤ_idl}
use mir.Syntax.{w8, w32}
use mir.Val.{to_z, of_z, SFits}
use mir.ValLaws.{to_z_pos, to_z-neg, to_z-of_z, to_z-Fits}
use Rattle.wrapping.proofs.RangeLaws.{neg_abs}
use Rattle.wrapping.proofs.WrapLaws.{sub_cases}
use Rattle.pass_bytes.specs.PassBytes.{term_of_byte, delta_of_byte, weight_of, weight_of_byte}

-- a term fits 8 bits
pub term_fits : (byte : ℕ) → SFits w8 (term_of_byte byte)
unfolding term_of_byte
term_fits byte = sub_cases (byte % 32) 5 (SFits w8) (λ h. record { sfits = omega arith }) (λ h. record { sfits = omega arith })

-- the low five bits are read as they stand
pub term-read : (byte : ℕ) → to_z w8 (byte % 32) -ℤ pos 5 ≡ term_of_byte byte
unfolding term_of_byte
term-read byte = rw (to_z_pos w8 (byte % 32) (omega arith))

-- the top three bits are read as they stand
pub delta-read : (byte : ℕ) → byte < 256 → to_z w32 (byte / 32) ≡ delta_of_byte byte
unfolding delta_of_byte
delta-read byte h = to_z_pos w32 (byte / 32) (omega arith)

-- a byte below 128 stands for itself
pub weight-up : (byte : ℕ) → byte < 128 → to_z w32 (byte * 8 + (byte * 8 + 64) / 128) ≡ weight_of_byte byte
unfolding weight_of_byte weight_of
weight-up zero h = refl
weight-up (suc k) h =
    let e : suc k * 8 + (suc k * 8 + 64) / 128 ≡ 8 * suc k + (8 * suc k + 64) / 128 = omega arith in
    rw (to_z_pos w8 (suc k) h, e) (to_z_pos w32 _ (omega arith))

-- any other stands for its difference from 256, negative
signed-down : (byte : ℕ) → 128 ≤ byte → byte < 256 → to_z w8 byte ≡ negsuc (255 - byte)
signed-down byte h k =
    let e : byte ≡ 256 - suc (255 - byte) = omega arith in
    ap (to_z w8) e ∙ to_z-neg w8 (255 - byte) (omega arith)

neg_fits : (n : ℕ) → n ≤ 1024 → SFits w32 (neg_ℤ (pos n))
neg_fits zero h = record { sfits = omega arith }
neg_fits (suc n) h = record { sfits = omega arith }

-- a negative weight fits 32 bits
pub weight-down-fits : (n : ℕ) → n ≤ 1024 → SFits w32 (pos 0 -ℤ to_z w32 n)
weight-down-fits n h = rw (to_z_pos w32 n (omega arith), +ℤ_idl) (neg_fits n h)

-- a byte from 128 up stands for a negative weight
pub weight-down : (byte : ℕ) → 128 ≤ byte → byte < 256 → to_z w32 (of_z w32 (pos 0 -ℤ to_z w32 ((256 - byte) * 8))) ≡ weight_of_byte byte
unfolding weight_of_byte weight_of
weight-down byte h k =
    let e : (256 - byte) * 8 ≡ 8 * suc (255 - byte) = omega arith in
    rw (to_z_pos w32 ((256 - byte) * 8) (omega arith), +ℤ_idl, to_z-of_z w32 _ (neg_fits ((256 - byte) * 8) (omega arith)), signed-down byte h k)
    (ap (λ n. neg_ℤ (pos n)) e)

in_range : (z : ℤ) → SFits w8 z → nat_abs (weight_of z) ≤ 1024
unfolding weight_of
in_range (pos zero) h = omega arith
in_range (pos (suc k)) h = omega (arith, h.sfits)
in_range (negsuc k) h = rw (neg_abs (8 * suc k)) (omega (arith, h.sfits))

-- "so -1024 to 1024" (P2): both ends are reached
pub weight_range : (byte : ℕ) → byte < 256 → nat_abs (weight_of_byte byte) ≤ 1024
unfolding weight_of_byte
weight_range byte h = in_range (to_z w8 byte) (to_z-Fits w8 byte (record { fits = h }))

-- the lowest weight
pub weight_lowest : weight_of_byte 128 ≡ negsuc 1023
unfolding weight_of_byte weight_of
weight_lowest = refl

-- the highest weight
pub weight_highest : weight_of_byte 127 ≡ pos 1024
unfolding weight_of_byte weight_of
weight_highest = refl
