-- Which of its answers reading from any slice, and laying a field of any width into any buffer, gives.
-- Assumes nothing.
use mathlib.Core.Path.{◌≡◌, refl}
use mathlib.Core.List.{List, [], ◌∷◌}
use Prim.Native.Nat.{ℕ, ◌+◌, ◌*◌, ◌≤◌, ◌<◌}
use borrow.Author.Tests.{lt-ltb, le-ltb, le-leb, lt-leb}
use lib.ListN.{length}
use Rattle.answers.specs.Limits.{max_payload_bytes}
use Rattle.std.specs.Prelude.{Option, Some, None}
use Rattle.std.specs.Option.{ok_or}
use Rattle.answers.specs.declared.Refusal.TheVariants.{Truncated}
use Rattle.bits.specs.Bits.{low}
use Rattle.bits.specs.Checked.{field_told, told, too_large, bit_read, bits_read_at, unary_read, refuse_writing, written}
use Rattle.bits.specs.Laid.{put}

-- a field that is missing is told as Truncated
pub field-told : (field : Option (ℕ × ℕ)) → told (ok_or field Truncated) ≡ field_told field
field-told (Some (v, next)) = refl
field-told None = refl

-- the payload is over the limit, whatever it holds
pub read-large : (s : List ℕ) (p count : ℕ) → max_payload_bytes < length s
    → (bit_read s p ≡ too_large) × (bits_read_at s p count ≡ too_large) × (unary_read s p ≡ too_large)
unfolding bit_read bits_read_at unary_read
read-large s p count h =
    let e = lt-ltb max_payload_bytes (length s) h in
    (rw e, rw e, rw e)

module _ (buf : List ℕ) (p v count : ℕ) where
  -- the buffer is over the limit
  pub written-large : max_payload_bytes < length buf → written buf p v count ≡ refuse_writing 5 buf
  unfolding written
  written-large h = rw (lt-ltb max_payload_bytes (length buf) h)

  -- the field is over 32 bits
  pub written-wide : length buf ≤ max_payload_bytes → 32 < count
      → written buf p v count ≡ refuse_writing 5 buf
  unfolding written
  written-wide h w = rw (le-ltb max_payload_bytes (length buf) h, lt-ltb 32 count w)

  -- the buffer ends before the field does
  pub written-short : length buf ≤ max_payload_bytes → count ≤ 32 → 8 * length buf < p + count
      → written buf p v count ≡ refuse_writing 11 buf
  unfolding written
  written-short h w r =
      rw (le-ltb max_payload_bytes (length buf) h, le-ltb 32 count w, lt-leb (p + count) (8 * length buf) r)

  -- the field is laid
  pub written-accepted : length buf ≤ max_payload_bytes → count ≤ 32 → p + count ≤ 8 * length buf
      → written buf p v count ≡ record { answer = 0 ∷ (p + count) ∷ []; buffer = put buf p (low count v) }
  unfolding written
  written-accepted h w r =
      rw (le-ltb max_payload_bytes (length buf) h, le-ltb 32 count w, le-leb (p + count) (8 * length buf) r)
