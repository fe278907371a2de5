-- What a field at a place of a payload is read as: its value and the place after it, or that a bit
-- is missing. Document 01, "Reading" (R3), and the counts of "One word" (N1, N2). Each reader is a
-- function of all the payload's bits and a place, which may lie past their end.
-- Assumes nothing.
use Rattle.std.specs.Prelude.{Bool, true, false, cond, Option, Some, None, List, [], ◌∷◌, ◌++◌, ℕ, ◌+◌, ltb, leb, length, take, drop, replicate}
use Rattle.bits.specs.Bits.{num, ones}

-- a number of `count` bits at p, low bit first, where so many are left; no bits can be read at any
-- place
unfoldable pub get_bits : List Bool → ℕ → ℕ → Option (ℕ × ℕ)
get_bits bits p count = cond (leb count (length (drop p bits))) (Some (num (take count (drop p bits)), p + count)) None

-- the ones at p up to a zero, which is read too, where there is one
unfoldable pub unary : List Bool → ℕ → Option (ℕ × ℕ)
unary bits p = cond (ltb (ones (drop p bits)) (length (drop p bits))) (Some (ones (drop p bits), p + ones (drop p bits) + 1)) None

-- a field, and then what is read behind it; where the field is missing, so is that
abbrev pub and_then : Option (ℕ × ℕ) → (ℕ → ℕ → Option (ℕ × ℕ)) → Option (ℕ × ℕ)
and_then (Some (v, q)) next = next v q
and_then None next = None

-- the bits that a count c is written as: c ones and a zero
unfoldable pub unary_field : ℕ → List Bool
unary_field c = replicate c true ++ false ∷ []
