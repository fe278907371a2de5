-- Document 01, "Packing" (K3 to K5): the bits of a word outside a run, from the medians due and the
-- flags.
-- Assumes nothing.
use Rattle.std.specs.Prelude.{Bool, cond, List, ◌++◌, ℕ, ◌+◌, ◌-◌, ◌*◌, ℤ}
use Rattle.std.specs.Int.Signed.{mag}
use Rattle.bits.specs.Bits.{val, low}
use Rattle.entropy.specs.Medians.{Medians}
use Rattle.medians.specs.Interval.{low_of, high_of}
use Rattle.word_bits.specs.Counts.{count}
use Rattle.word_bits.specs.Residuals.{sign}
use Rattle.fields.specs.Written.{prefix_field, code_field}

-- code and sign of v, where its count is k: v, or -v - 1 for a negative v, lies in the interval of
-- k
unfoldable pub value_field : Medians → ℕ → ℤ → List Bool
value_field m k v = code_field (high_of m k - low_of m k) (mag v - low_of m k) ++ low 1 (sign v)

-- the value of a prefix (W3, K5): the reader's count is its half, plus 1 if last_one, and its low
-- bit tells of the next word
abbrev pub prefix_of : ℕ → Bool → Bool → ℕ
prefix_of k last_one more = 2 * (k - val last_one) + val more

-- the bits of a word outside a run
abbrev pub word_field : Bool → Bool → Bool → Medians → ℤ → List Bool
word_field last_zero last_one more m v =
    cond last_zero
    (value_field m (count m (mag v)) v)
    (prefix_field (prefix_of (count m (mag v)) last_one more) ++ value_field m (count m (mag v)) v)
