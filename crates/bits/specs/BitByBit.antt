-- Document 02, §3 (Q3.1): counting bit by bit. The bit at the place is read; a zero ends the count,
-- a one adds 1 to the count from the next place on, and where the bit is missing, so is the count.
-- Assumes nothing.
use Rattle.std.specs.Prelude.{◌≡◌, Bool, cond, Option, Some, None, List, ℕ, ◌+◌, eqb}
use Rattle.bits.specs.Fields.{get_bits, unary, and_then}

-- a count with one more one before it
abbrev pub one_more : Option (ℕ × ℕ) → Option (ℕ × ℕ)
one_more (Some (n, q)) = Some (n + 1, q)
one_more None = None

-- so every count is found
abbrev pub BitByBit : Type 0
BitByBit =
    (bits : List Bool) (p : ℕ) → unary bits p ≡ and_then (get_bits bits p 1) (λ bit next. cond (eqb bit 0) (Some (0, next)) (one_more (unary bits next)))
