-- Document 01, "One word": a word is a function of the payload's bits, the place and the state. Its
-- four steps stand here from the last to the first.
-- Assumes nothing.
use Rattle.std.specs.Prelude.{Bool, cond, Option, Some, None, Result, Ok, Err, List, ℕ, zero, suc, ◌+◌, ◌-◌, ◌/◌, ◌%◌, ℤ, pos, negsuc}
use Rattle.answers.specs.Numbers.{number_of}
use Rattle.answers.specs.declared.Refusal.{Refusal}
use Rattle.bits.specs.Bits.{val, bit_of}
use Rattle.bits.specs.Fields.{get_bits}
use Rattle.fields.specs.Counts.{run_length, prefix}
use Rattle.fields.specs.Code.{truncated_binary}
use Rattle.medians.specs.Interval.{low_of, high_of}
use Rattle.zones.specs.Report.{Report, none, zone_of}
use Rattle.word_state.specs.State.{State, due, paid, in_run, unbroken, cleared, flagged, after, run_due, on_zeros}

-- what a word gives: a sample, the place after, the state after and a report; or the number of a
-- refusal
pub data Word : Type 0 where
  given : ℤ → ℕ → State → Report → Word
  refused : ℕ → Word

-- a field, and then what follows; a missing bit is refusal 3
abbrev pub on_field : Option (ℕ × ℕ) → (ℕ → ℕ → Word) → Word
on_field (Some (v, q)) next = next v q
on_field None next = refused 3

-- a prefix, and then what follows; a refused prefix is a refused word
abbrev pub on_prefix : Result (ℕ × ℕ) Refusal → (ℕ → ℕ → Word) → Word
on_prefix (Ok (v, q)) next = next v q
on_prefix (Err refusal) next = refused (number_of refusal)

-- document 01 (I6): "Sign bit 0 gives v = low + code, 1 gives -v - 1"
abbrev pub signed : ℕ → ℕ → ℤ
signed zero v = pos v
signed (suc t) v = negsuc v

-- document 01 (W4): "Form the interval from the medians, then adapt them, then read code and sign";
-- k is the count
unfoldable pub value : List Bool → ℕ → ℕ → State → Word
value bits p k s =
    on_field (truncated_binary bits p (high_of (due s) k - low_of (due s) k)) λ c q.
    on_field (get_bits bits q 1) λ t n.
    given (signed t (low_of (due s) k + c)) n (after k s) (zone_of k)

-- document 01 (W3): "last_zero set: clear it, count k = 0, no bits. Otherwise read prefix r; k = r
-- div 2, plus 1 if last_one"
unfoldable pub plain : List Bool → ℕ → State → Word
plain bits p s =
    cond s.last_zero
    (value bits p 0 (cleared s))
    (on_prefix (prefix bits p) λ r q. value bits q (r / 2 + val s.last_one) (flagged (bit_of (r % 2)) s))

-- document 01 (W2): "run_break set: clear it, go to 3. Otherwise, if .. read a run length. If it is
-- 0, go to 3. If n > 0: .. give 0"
unfoldable pub fresh : List Bool → ℕ → State → Word
fresh bits p s =
    cond s.run_break
    (plain bits p (unbroken s))
    (cond (run_due s.left s.right s.last_zero s.last_one)
    (on_field (run_length bits p) λ n q. on_zeros n (λ d. given (pos 0) q (in_run d s) none) (plain bits q s))
    (plain bits p s))

-- document 01 (W1): "Debt above 0: lower it, give 0"
unfoldable pub word : List Bool → ℕ → State → Word
word bits p s = on_zeros s.debt (λ d. given (pos 0) p (paid d s) none) (fresh bits p s)
