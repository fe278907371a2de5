-- Document 02, §7: which words are accepted, by their size, and what holds of their values: they lie
-- within the value of 8191, no shift loses a bit and no negation wraps.
-- Assumes nothing.
use mathlib.Core.Path.{◌≡◌, refl, sym, ap, ◌∙◌}
use mathlib.Core.Bool.{Bool, true, false, cond, ◌||◌}
use Prim.Native.Nat.{ℕ, zero, suc, ◌-◌, ◌*◌, ◌/◌, ◌%◌, ◌^◌, ◌<◌, ◌≤◌}
use native.Mathlib.Decide.{dec_lt}
use native.Mathlib.Nat.{pow-le-pow_right, mul-le-mul_left}
use native.Mathlib.Omega.{arith}
use lib.Dec.{leb}
use lib.IntN.{ℤ, pos, negsuc, neg_ℤ, nat_abs, neg_ℤ-neg_ℤ}
use lib.Signed.{le_z}
use mir.Syntax.{w32}
use mir.Val.{SFits}
use borrow.Author.Tests.{leb-false}
use Rattle.answers.specs.Guard.{unless_refused}
use Rattle.answers.proofs.TestLaws.{neither}
use Rattle.wrapping.specs.Wrap.{wrap32}
use Rattle.wrapping.proofs.WrapLaws.{wrap_id}
use Rattle.logpack.specs.Exp2Table.{exp2_table}
use Rattle.logpack.specs.LogWord.{mantissa, magnitude, log_word}
use Rattle.logpack.specs.Reach.{out_of_reach, log_word_refusal, log_word_told, AcceptedWithin, ShiftExact, NegationExact}
use Rattle.logpack.proofs.LogWordLaws.{mantissa_lt, shrunk_lt, magnitude-right, magnitude-left, log_word-fits}

-- the first of its two tests holds
pub above : (w : ℤ) → le_z (pos 8192) w ≡ true → out_of_reach w ≡ true
above w e = ap (λ (b : Bool). b || le_z w (neg_ℤ (pos 8192))) e

-- where it fails, the second decides
pub not-above : (w : ℤ) → le_z (pos 8192) w ≡ false → out_of_reach w ≡ le_z w (neg_ℤ (pos 8192))
not-above w e = ap (λ (b : Bool). b || le_z w (neg_ℤ (pos 8192))) e

-- an accepted word is not out of reach
pub in_reach : (w : ℤ) → log_word_refusal w ≡ 0 → out_of_reach w ≡ false
in_reach w e = go (out_of_reach w) e
  where
    go : (b : Bool) → ◌≡◌ {A = ℕ} (cond b 17 0) 0 → b ≡ false
    go true e = absurd (omega arith)
    go false e = refl

-- and is at most 8191 from 0
pub accepted-size : (w : ℤ) → log_word_refusal w ≡ 0 → nat_abs w < 8192
accepted-size (pos n) e = leb-false 8192 n (neither (leb 8192 n) false (in_reach (pos n) e)).0
accepted-size (negsuc n) e = let h = leb-false 8191 n (in_reach (negsuc n) e) in omega arith

-- what is told of a word, by the test
told-by : (w : ℤ) {b : Bool} → out_of_reach w ≡ b → log_word_told w ≡ unless_refused (cond b 17 0) (λ number. pos 0) (log_word w)
told-by w e = ap (λ (b : Bool). unless_refused (cond b 17 0) (λ number. pos 0) (log_word w)) e

pub told-value : (w : ℤ) → out_of_reach w ≡ false → log_word_told w ≡ log_word w
told-value w e = told-by w e

pub told-refused : (w : ℤ) → out_of_reach w ≡ true → log_word_told w ≡ pos 0
told-refused w e = told-by w e

-- which has 32 bits
pub told-fits : (w : ℤ) → SFits w32 (log_word_told w)
told-fits w = go (out_of_reach w)
  where
    go : (b : Bool) → SFits w32 (unless_refused (cond b 17 0) (λ number. pos 0) (log_word w))
    go true = record { sfits = omega arith }
    go false = log_word-fits w

-- and what it is refused with
pub refused-by : (w : ℤ) {b : Bool} → out_of_reach w ≡ b → log_word_refusal w ≡ cond b 17 0
refused-by w e = ap (λ (b : Bool). cond b 17 0) e

-- a left shift of a word below 8192 stays below 2,143,289,345
left_le : (w : ℕ) → w < 8192 → mantissa w * 2 ^ (w / 256 - 9) ≤ 2143289344
left_le w h =
    let s : w / 256 - 9 ≤ 22 = omega arith in
    let p : 2 ^ (w / 256 - 9) ≤ 2 ^ 22 = pow-le-pow_right (omega arith) s in
    let q : mantissa w * 2 ^ (w / 256 - 9) ≤ mantissa w * 4194304 = mul-le-mul_left (mantissa w) p in
    omega (arith, mantissa_lt w)

-- the shift of a word below 8192 is less than 32
left_shift : (w : ℕ) → w < 8192 → (w / 256 - 9) % 32 ≡ w / 256 - 9
left_shift w h = omega arith

-- a word below 8192 that is shifted left
left-exact : (w : ℕ) → w < 8192 → 9 < w / 256 → magnitude w ≡ pos (mantissa w * 2 ^ (w / 256 - 9))
left-exact w h k =
    magnitude-left w k
    ∙ ap (λ (s : ℕ). wrap32 (pos (mantissa w * 2 ^ s))) (left_shift w h)
    ∙ wrap_id (pos (mantissa w * 2 ^ (w / 256 - 9))) (record { sfits = omega (arith, left_le w h) })

-- (Q7.1)
pub shift_exact : ShiftExact
shift_exact w e k = left-exact w (accepted-size (pos w) e) k

-- a number that is not negative, and how large it is at most
record Natural (most : ℕ) (z : ℤ) : Type 0 where
  size : ℕ
  is : z ≡ pos size
  small : size ≤ most

-- the value of a word below 8192 that is not negative
natural : (w : ℕ) → w < 8192 → Natural 2143289344 (magnitude w)
natural w h = go (dec_lt 9 (w / 256))
  where
    go : Dec (9 < w / 256) → Natural 2143289344 (magnitude w)
    go (yes k) = record { size = mantissa w * 2 ^ (w / 256 - 9); is = left-exact w h k; small = left_le w h }
    go (no k) =
        record { size = mantissa w / 2 ^ (9 - w / 256); is = magnitude-right w (omega arith); small = omega (arith, shrunk_lt w (9 - w / 256)) }

-- its negation is exact
negated : {z : ℤ} → Natural 2143289344 z → wrap32 (neg_ℤ z) ≡ neg_ℤ z
negated n = rw n.is (go n.size n.small)
  where
    go : (s : ℕ) → s ≤ 2143289344 → wrap32 (neg_ℤ (pos s)) ≡ neg_ℤ (pos s)
    go zero h = wrap_id (pos 0) (record { sfits = omega arith })
    go (suc s) h = wrap_id (negsuc s) (record { sfits = omega arith })

-- and of the same size
abs_neg : (z : ℤ) → nat_abs (neg_ℤ z) ≡ nat_abs z
abs_neg (pos zero) = refl
abs_neg (pos (suc n)) = refl
abs_neg (negsuc n) = refl

size_le : {most : ℕ} {z : ℤ} → Natural most z → nat_abs z ≤ most
size_le n = rw n.is n.small

-- (Q7.1)
pub accepted-within : AcceptedWithin
unfolding log_word
accepted-within (pos w) e = size_le (natural w (accepted-size (pos w) e))
accepted-within (negsuc w) e =
    let n = natural (suc w) (accepted-size (negsuc w) e) in
    rw (negated n, abs_neg (magnitude (suc w))) (size_le n)

-- the value of the word 0
zero-value : magnitude 0 ≡ pos 0
unfolding magnitude mantissa exp2_table
zero-value = refl

-- (Q7.1)
pub negation_exact : NegationExact
unfolding log_word
negation_exact (pos zero) e = zero-value ∙ ap neg_ℤ (sym zero-value)
negation_exact (pos (suc w)) e = negated (natural (suc w) (accepted-size (pos (suc w)) e))
negation_exact (negsuc w) e =
    let m = magnitude (suc w) in
    sym (ap neg_ℤ (negated (natural (suc w) (accepted-size (negsuc w) e))) ∙ neg_ℤ-neg_ℤ m)
