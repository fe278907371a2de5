-- What the entries tell for any slice, place and width: document 01's number of the answer, 0 for
-- accepted, and then the values of its case. The limit is that of "Why each operation says no" (5).
-- Assumes nothing.
use Rattle.std.specs.Prelude.{cond, Option, Some, None, Result, Ok, Err, List, [], ◌∷◌, ℕ, ◌+◌, ◌*◌, ltb, leb, length}
use Rattle.answers.specs.Limits.{max_payload_bytes}
use Rattle.bits.specs.Bits.{low, bits_of}
use Rattle.bits.specs.Fields.{get_bits, unary}
use Rattle.bits.specs.Laid.{put}
use Rattle.answers.specs.Numbers.{number_of}
use Rattle.answers.specs.declared.Refusal.{Refusal}

-- a field: its value and the next place; 3 where a bit is missing
abbrev pub field_told : Option (ℕ × ℕ) → List ℕ
field_told (Some (v, next)) = 0 ∷ v ∷ next ∷ []
field_told None = 3 ∷ []

-- what an entry that reads answers: the value and the next place, or the refusal's number
abbrev pub told : Result (ℕ × ℕ) Refusal → List ℕ
told (Ok (v, next)) = 0 ∷ v ∷ next ∷ []
told (Err refusal) = number_of refusal ∷ []

-- what laying a field answers: the next place, or the refusal's number
abbrev pub put_told : Result ℕ Refusal → List ℕ
put_told (Ok next) = 0 ∷ next ∷ []
put_told (Err refusal) = number_of refusal ∷ []

-- the answer to a payload over the limit or a field over 32 bits
abbrev pub too_large : List ℕ
too_large = 5 ∷ []

-- one bit, a field and a count of ones of a payload
unfoldable pub bit_read : List ℕ → ℕ → List ℕ
bit_read s p = cond (ltb max_payload_bytes (length s)) too_large (field_told (get_bits (bits_of s) p 1))

unfoldable pub bits_read_at : List ℕ → ℕ → ℕ → List ℕ
bits_read_at s p count =
    cond (ltb max_payload_bytes (length s)) too_large (
    cond (ltb 32 count) too_large (field_told (get_bits (bits_of s) p count)))

unfoldable pub unary_read : List ℕ → ℕ → List ℕ
unary_read s p = cond (ltb max_payload_bytes (length s)) too_large (field_told (unary (bits_of s) p))

-- what laying a field leaves: what is told, and the buffer
pub record Written : Type 0 where
  pub answer : List ℕ
  pub buffer : List ℕ

-- a refusal: the buffer keeps its bytes
abbrev pub refuse_writing : ℕ → List ℕ → Written
refuse_writing number buf = record { answer = number ∷ []; buffer = buf }

-- the count low bits of v, laid into the buffer from p on
unfoldable pub written : List ℕ → ℕ → ℕ → ℕ → Written
written buf p v count =
    cond (ltb max_payload_bytes (length buf)) (refuse_writing 5 buf) (
    cond (ltb 32 count) (refuse_writing 5 buf) (
    cond (leb (p + count) (8 * length buf))
    (record { answer = 0 ∷ (p + count) ∷ []; buffer = put buf p (low count v) })
    (refuse_writing 11 buf)))
