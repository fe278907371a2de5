-- Document 01, "One word", the code inside an interval whose last code is M (I4, I5).
-- Assumes nothing.
use Rattle.std.specs.Prelude.{◌≡◌, Bool, Option, Some, cond, List, ℕ, ◌+◌, ◌-◌, ◌*◌, ◌^◌, ◌≤◌, ◌<◌, ltb, eqb}
use Rattle.std.specs.Int.Count.{count_leading_zeros}
use Rattle.bits.specs.Fields.{get_bits, and_then}
use Rattle.bits.specs.Window.{Window}

-- the bit length of a number below 2 ^ 32: how many bits it has from its highest set bit down; 0
-- for 0
unfoldable pub bit_length : ℕ → ℕ
bit_length n = 32 - count_leading_zeros 32 n

-- document 01 (I5): "read b - 1 bits s; if s < x the code is s, else one more bit t and 2s - x + t"
unfoldable pub code_of : List Bool → ℕ → ℕ → ℕ → Option (ℕ × ℕ)
code_of bits p b x =
    and_then (get_bits bits p (b - 1)) λ s q.
    cond (ltb s x) (Some (s, q)) (
    and_then (get_bits bits q 1) λ t n. Some (2 * s - x + t, n))

-- document 01 (I4, I5): "M = 0 reads nothing. Otherwise b is M's bit length, x = 2^b - M - 1"
unfoldable pub truncated_binary : List Bool → ℕ → ℕ → Option (ℕ × ℕ)
truncated_binary bits p M = cond (eqb M 0) (Some (0, p)) (code_of bits p (bit_length M) (2 ^ bit_length M - M - 1))

-- the code that stands at the start of a window of at least 31 bits, wherever that is, and the bits
-- that it takes: no more than hold the last code
pub record CodeIn (v M code used : ℕ) : Type 0 where
  pub is : (bits : List Bool) (p j : ℕ) → Window bits p j v → 31 ≤ j
      → truncated_binary bits p M ≡ Some (code, p + used)
  pub within : code ≤ M
  pub most : (w : ℕ) → M < 2 ^ w → used ≤ w
