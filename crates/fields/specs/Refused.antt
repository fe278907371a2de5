-- Document 01, "Why each operation says no" and "Say Truncated before a bit is read" (H8): what a
-- field that is refused runs into. Refusal 3 needs a missing bit, or a count or a prefix value over
-- its cap; refusal 4 a second count of 33.
-- Assumes nothing.
use Rattle.std.specs.Prelude.{◌≡◌, Bool, Some, List, ℕ, ◌+◌, ◌-◌, ◌≤◌, ◌<◌, length, drop}
use Rattle.bits.specs.Bits.{ones}
use Rattle.bits.specs.Fields.{get_bits, unary}
use Rattle.fields.specs.Counts.{counted}
use Rattle.fields.specs.Code.{bit_length}

-- n bits are asked for at q, and fewer are left
abbrev pub Missing : List Bool → ℕ → ℕ → Type 0
Missing bits q n = length (drop q bits) < n

-- the ones at q run to the end of the payload: the zero that ends a count is missing
abbrev pub NoZero : List Bool → ℕ → Type 0
NoZero bits q = length (drop q bits) ≤ ones (drop q bits)

-- no run length at p: its zero or a bit behind its count is missing, or the count is 33 or more
pub data NoRun (bits : List Bool) (p : ℕ) : Type 0 where
  no_zero : NoZero bits p → NoRun bits p
  over : (c q : ℕ) → unary bits p ≡ Some (c, q) → 33 ≤ c → NoRun bits p
  missing : (c q : ℕ) → unary bits p ≡ Some (c, q) → Missing bits q (c - 1) → NoRun bits p

-- a second count c that ends at n stands behind 16 ones or more at p
pub record Second (bits : List Bool) (p c n : ℕ) : Type 0 where
  pub first : ℕ
  pub behind : ℕ
  pub read : unary bits p ≡ Some (first, behind)
  pub many : 16 ≤ first
  pub second : unary bits behind ≡ Some (c, n)

-- no prefix at p: the zero of a count or a bit behind the second one is missing, the second count
-- is above 33, or the value is above 4,294,967,295
pub data NoPrefix (bits : List Bool) (p : ℕ) : Type 0 where
  no_zero : NoZero bits p → NoPrefix bits p
  no_second-zero : (r q : ℕ) → unary bits p ≡ Some (r, q) → 16 ≤ r → NoZero bits q → NoPrefix bits p
  over : (c n : ℕ) → Second bits p c n → 33 < c → NoPrefix bits p
  missing : (c n : ℕ) → Second bits p c n → Missing bits n (c - 1) → NoPrefix bits p
  value-over : (c n v m : ℕ) → Second bits p c n → counted bits n c ≡ Some (v, m) → 4294967295 < 16 + v
      → NoPrefix bits p

-- the stream ends at p: the second count is 33
pub record Ends (bits : List Bool) (p : ℕ) : Type 0 where
  pub behind : ℕ
  pub second : Second bits p 33 behind

-- no code at p in an interval whose last code is M: one of its bits is missing
pub data NoCode (bits : List Bool) (p M : ℕ) : Type 0 where
  missing : Missing bits p (bit_length M - 1) → NoCode bits p M
  no_extra : (s q : ℕ) → get_bits bits p (bit_length M - 1) ≡ Some (s, q) → Missing bits q 1 → NoCode bits p M
