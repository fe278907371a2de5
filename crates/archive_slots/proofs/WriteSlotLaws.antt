-- The three answers of `write_call`, by what the writer told, and that what it told fits a slot.
-- Assumes nothing.
use mathlib.Core.Path.{◌≡◌, refl, ap, ◌∙◌}
use mathlib.Core.Bool.{Bool, true, false}
use mathlib.Core.List.{List, [], ◌∷◌}
use Prim.Native.Nat.{ℕ, ◌≤◌, ◌<◌}
use native.Mathlib.Omega.{arith}
use borrow.Author.Tests.{ltb-false}
use lib.Dec.{ltb}
use lib.ListN.{length}
use Rattle.std.specs.Prelude.{Ok, Err}
use Rattle.answers.specs.declared.Refusal.{Refusal}
use Rattle.answers.specs.Limits.{max_payload_bytes}
use Rattle.answers.specs.Numbers.{number_of}
use Rattle.overlay.specs.Overlay.{overlay}
use Rattle.slots.proofs.FillLaws.{fill-short, fill-refused, fill-laid}
use Rattle.archive.specs.Recording.{Recording, recording_bytes}
use Rattle.archive.proofs.BlockLaws.{recording_length}
use Rattle.archive_writer.specs.Write.{WriteTold, write_refusal, view_write, write_entry}
use Rattle.archive_slots.specs.ArchiveSlots.{leave_write, write_call}

module _ (r : Recording) (out : List ℕ) where
  -- how many bytes are told, by whether the payload is longer and whether the storage is short
  small_if : (long short : Bool) → ltb max_payload_bytes (length r.payload) ≡ long
      → ltb (length out) (length (recording_bytes r)) ≡ short → (write_entry r out).bytes < 4294967296
  unfolding write_entry write_refusal
  small_if true short e f = rw e (omega arith)
  small_if false true e f = rw (e, f) (omega arith)
  small_if false false e f =
      let h = ltb-false max_payload_bytes (length r.payload) e in
      rw (e, f) (omega (arith, recording_length r))

  -- what the writer tells fits a slot
  pub write_small : (n b : ℕ) (after : List ℕ)
      → record { refusal = n; bytes = b; out = after } ≡ write_entry r out → b < 4294967296
  write_small n b after e =
      rw (ap (λ (t : WriteTold). t.bytes) e) (small_if _ _ refl refl)

module _ (r : Recording) (out answer : List ℕ) where
  -- no slot: 6, and nothing is written
  pub write_short : length answer < 1
      → record { refusal = 6; list = out; answer = answer } ≡ write_call r out answer
  unfolding write_call
  write_short h = fill-short 1 out _ answer _ _ h

  -- what the writer refuses: the slot is as it was
  pub write_refused : (x : Refusal) (after : List ℕ) → 1 ≤ length answer → view_write (Err x) after ≡ write_entry r out
      → record { refusal = number_of x; list = after; answer = answer } ≡ write_call r out answer
  unfolding write_call
  write_refused x after h e = fill-refused 1 out after answer (0 ∷ []) x h ∙ ap (leave_write out answer) e

  -- what it accepts: the bytes written stand in the slot
  pub write_laid : (b : ℕ) (after laid : List ℕ) → 1 ≤ length answer → view_write (Ok b) after ≡ write_entry r out
      → laid ≡ overlay answer 0 (b ∷ [])
      → record { refusal = 0; list = after; answer = laid } ≡ write_call r out answer
  unfolding write_call
  write_laid b after laid h e l = fill-laid 1 out after answer (b ∷ []) laid h l ∙ ap (leave_write out answer) e
