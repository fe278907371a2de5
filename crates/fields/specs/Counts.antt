-- Document 01, "One word", run length (N1) and prefix (N2): the two fields that open with a count
-- of ones. Each is read from the payload's bits at a place, and tells its value with the place
-- after it, or why there is none.
-- Assumes nothing.
use Rattle.std.specs.Prelude.{Bool, Option, Some, None, Result, Ok, Err, cond, List, ℕ, ◌+◌, ◌-◌, ◌^◌, ltb, leb, eqb}
use Rattle.answers.specs.declared.Refusal.{Refusal}
use Rattle.answers.specs.declared.Refusal.TheVariants.{Truncated, EndOfStream}
use Rattle.bits.specs.Fields.{get_bits, unary, and_then}

-- document 01 (N1): "0 and 1 stand for themselves; else c - 1 bits under an implied top bit"
unfoldable pub counted : List Bool → ℕ → ℕ → Option (ℕ × ℕ)
counted bits q c =
    cond (ltb c 2) (Some (c, q)) (and_then (get_bits bits q (c - 1)) λ v n. Some (2 ^ (c - 1) + v, n))

-- document 01 (N1): "c ones up to a zero. c of 33 or more: Truncated"
unfoldable pub run_length : List Bool → ℕ → Option (ℕ × ℕ)
run_length bits p = and_then (unary bits p) λ c q. cond (ltb c 33) (counted bits q c) None

-- a field, and then the prefix that follows from it; where the field is missing, so is the prefix
abbrev pub then_prefix : Option (ℕ × ℕ) → (ℕ → ℕ → Result (ℕ × ℕ) Refusal) → Result (ℕ × ℕ) Refusal
then_prefix (Some (v, q)) next = next v q
then_prefix None next = Err Truncated

-- document 01 (N2), behind 16 ones or more and a second count c: "c = 33 is EndOfStream, above 33
-- Truncated; the value is 16 plus what a run length with c would be, and above 4,294,967,295 it is
-- Truncated"
unfoldable pub escaped : List Bool → ℕ → ℕ → Result (ℕ × ℕ) Refusal
escaped bits c q =
    cond (eqb c 33) (Err EndOfStream) (
    cond (ltb 33 c) (Err Truncated) (
    then_prefix (counted bits q c) λ v n.
    cond (leb (16 + v) 4294967295) (Ok (16 + v, n)) (Err Truncated)))

-- document 01 (N2): "fewer than 16 ones mean their count; 16 or more are followed by a second
-- count"
unfoldable pub prefix : List Bool → ℕ → Result (ℕ × ℕ) Refusal
prefix bits p =
    then_prefix (unary bits p) λ r q.
    cond (ltb r 16) (Ok (r, q)) (then_prefix (unary bits q) (escaped bits))
