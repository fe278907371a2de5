-- Document 02, §7, "Log words past the format's reach": which log words the log word step refuses,
-- what it tells of the others, and what is said of their values.
-- Assumes nothing.
use Rattle.std.specs.Prelude.{◌≡◌, Bool, cond, ◌||◌, ℕ, ◌-◌, ◌*◌, ◌/◌, ◌^◌, ◌<◌, ◌≤◌, ℤ, pos, neg_ℤ, nat_abs}
use Rattle.std.specs.Int.Signed.{le_z}
use Rattle.answers.specs.Guard.{unless_refused}
use Rattle.logpack.specs.LogWord.{mantissa, magnitude, log_word}

-- (Q7.1) "a log word of 8192 or more or -8192 or less"
abbrev pub out_of_reach : ℤ → Bool
out_of_reach w = le_z (pos 8192) w || le_z w (neg_ℤ (pos 8192))

-- (Q7.1) it is refused with 17; 0 means accepted
abbrev pub log_word_refusal : ℤ → ℕ
log_word_refusal w = cond (out_of_reach w) 17 0

-- what the log word step tells: the value of every other word, and 0 with a refusal
abbrev pub log_word_told : ℤ → ℤ
log_word_told w = unless_refused (log_word_refusal w) (λ number. pos 0) (log_word w)

-- (Q7.1) "whose value no longer fits": that of an accepted word lies within -2,143,289,344 to
-- 2,143,289,344
abbrev pub AcceptedWithin : Type 0
AcceptedWithin = (w : ℤ) → log_word_refusal w ≡ 0 → nat_abs (log_word w) ≤ 2143289344

-- (Q7.1) no left shift of an accepted word loses a bit: the value is the whole product
abbrev pub ShiftExact : Type 0
ShiftExact = (w : ℕ) → log_word_refusal (pos w) ≡ 0 → 9 < w / 256 → magnitude w ≡ pos (mantissa w * 2 ^ (w / 256 - 9))

-- (Q7.1) nor does a negation wrap
abbrev pub NegationExact : Type 0
NegationExact = (w : ℤ) → log_word_refusal w ≡ 0 → log_word (neg_ℤ w) ≡ neg_ℤ (log_word w)
