-- A cross weight within 1024 of 0 stays there, where delta is 0 to 7 (P9). Assumes nothing.
use mathlib.Core.Path.{◌≡◌, refl}
use Prim.Native.Nat.{ℕ, zero, suc, ◌+◌, ◌<◌, ◌≤◌}
use native.Mathlib.Omega.{arith}
use lib.Dec.{ltb, nltb→le}
use lib.IntN.{ℤ, pos, negsuc, neg_ℤ, nat_abs, ◌+ℤ◌, ◌-ℤ◌, +ℤ_comm}
use mir.Syntax.{w32}
use mir.Val.{SFits}
use Rattle.wrapping.specs.Wrap.{wrap32}
use Rattle.wrapping.proofs.WrapLaws.{cond_cases, sub_cases, wrap_id}
use Rattle.weights.specs.Weights.{at_most1024, Way, way_of, moved_clip, updated_clip}

-- sizes of negations and sums
abs_neg : (z : ℤ) → nat_abs (neg_ℤ z) ≡ nat_abs z
abs_neg (pos zero) = refl
abs_neg (pos (suc n)) = refl
abs_neg (negsuc n) = refl

-- a small number is a 32-bit number
small-fits : (z : ℤ) → nat_abs z ≤ 2147483647 → SFits w32 z
small-fits (pos n) h = record { sfits = omega arith }
small-fits (negsuc n) h = record { sfits = omega arith }

abs_add : (a b : ℤ) → nat_abs (a +ℤ b) ≤ nat_abs a + nat_abs b
abs_add (pos a) (pos b) = omega arith
abs_add (pos a) (negsuc b) = sub_cases a (suc b) (λ z. nat_abs z ≤ a + suc b) (λ h. omega arith) (λ h. omega arith)
abs_add (negsuc a) (pos b) = sub_cases b (suc a) (λ z. nat_abs z ≤ suc a + b) (λ h. omega arith) (λ h. omega arith)
abs_add (negsuc a) (negsuc b) = omega arith

-- not below -1024
Low : ℤ → Type 0
Low (pos n) = Unit {0}
Low (negsuc n) = n < 1024

-- cut at 1024, a number that is not below -1024 is within 1024 of 0
at_most1024_abs : (z : ℤ) → Low z → nat_abs (at_most1024 z) ≤ 1024
unfolding Low at_most1024
at_most1024_abs (pos n) h = cond_cases (ltb 1024 n) (pos 1024) (pos n) (λ z. nat_abs z ≤ 1024) (λ t. omega arith) (λ t. nltb→le 1024 n t)
at_most1024_abs (negsuc n) h = h

-- a weight in bounds that grows is not below -1024
low-add : (w : ℤ) (d : ℕ) → nat_abs w ≤ 1024 → Low (w +ℤ pos d)
unfolding Low
low-add (pos n) d h = tt
low-add (negsuc n) d h = sub_cases d (suc n) Low (λ k. omega arith) (λ k. tt)

grown : (w : ℤ) (d : ℕ) → nat_abs w ≤ 1024 → d ≤ 7 → nat_abs (at_most1024 (wrap32 (w +ℤ pos d))) ≤ 1024
grown w d hw hd =
    rw (wrap_id (w +ℤ pos d) (small-fits _ (omega (arith, abs_add w (pos d))))) (at_most1024_abs (w +ℤ pos d) (low-add w d hw))

clip_by : (k : Way) (w : ℤ) (d : ℕ) → nat_abs w ≤ 1024 → d ≤ 7 → nat_abs (moved_clip k w (pos d)) ≤ 1024
clip_by Way.still w d hw hd = hw
clip_by Way.up w d hw hd = grown w d hw hd
clip_by Way.down w d hw hd =
    let g : nat_abs (at_most1024 (wrap32 (pos d -ℤ w))) ≤ 1024 = rw (+ℤ_comm (pos d) (neg_ℤ w)) (grown (neg_ℤ w) d (rw abs_neg hw) hd) in
    let n : nat_abs (neg_ℤ (at_most1024 (wrap32 (pos d -ℤ w)))) ≤ 1024 = rw abs_neg g in
    rw (wrap_id (neg_ℤ (at_most1024 (wrap32 (pos d -ℤ w)))) (small-fits _ (omega (arith, n)))) n

-- one update keeps a cross weight within 1024 of 0
pub clip_stays : (w : ℤ) (d : ℕ) (s r : ℤ) → nat_abs w ≤ 1024 → d ≤ 7 → nat_abs (updated_clip w (pos d) s r) ≤ 1024
unfolding updated_clip
clip_stays w d s r hw hd = clip_by (way_of s r) w d hw hd
