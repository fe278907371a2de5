-- The reading entry by its refusals.
-- Assumes nothing.
use mathlib.Core.Path.{◌≡◌, sym, ap₂, ◌∙◌}
use mathlib.Core.Bool.{or-true}
use mathlib.Core.List.{List}
use Prim.Native.Nat.{ℕ, ◌*◌, ◌≤◌, ◌<◌}
use borrow.Author.Tests.{lt-ltb, le-ltb, eq-eqb, ne_eqb}
use lib.Dec.{ltb}
use lib.IntN.{ℤ}
use lib.ListN.{length}
use Rattle.answers.specs.declared.Refusal.{Refusal}
use Rattle.answers.specs.Limits.{max_frames, max_payload_bytes}
use Rattle.answers.specs.Numbers.{number_of}
use Rattle.answers.proofs.GuardLaws.{guard_refused}
use Rattle.answers.proofs.NumberLaws.{number-positive}
use Rattle.entropy.specs.Medians.{MedianPair}
use Rattle.entropy.specs.Seed.{seed_refusal, seed_medians}
use Rattle.samples.specs.View.{ReadTold, read_words, read_refusal, refuse_reading, read_entry}

module _ (entropy payload : List ℕ) (frames : ℕ) (list : List ℤ) where
  -- the three tests before the entropy payload
  pub refused_frames : max_frames < frames → 5 ≡ read_refusal entropy payload frames list
  unfolding read_refusal
  refused_frames h = rw (lt-ltb max_frames frames h)

  -- too many payload bytes
  pub refused-payload : max_payload_bytes < length payload → 5 ≡ read_refusal entropy payload frames list
  unfolding read_refusal
  refused-payload h = rw (lt-ltb max_payload_bytes (length payload) h, or-true (ltb max_frames frames))

  -- a list of another length
  pub refused-list : frames ≤ max_frames → length payload ≤ max_payload_bytes → (length list ≡ 2 * frames → ⊥)
      → 6 ≡ read_refusal entropy payload frames list
  unfolding read_refusal
  refused-list h l n = rw (le-ltb max_frames frames h, le-ltb max_payload_bytes (length payload) l, ne_eqb (length list) (2 * frames) n)

  -- and the entropy payload itself
  pub refused-seed : frames ≤ max_frames → length payload ≤ max_payload_bytes → length list ≡ 2 * frames
      → seed_refusal entropy ≡ read_refusal entropy payload frames list
  unfolding read_refusal
  refused-seed h l n = rw (le-ltb max_frames frames h, le-ltb max_payload_bytes (length payload) l, eq-eqb (length list) (2 * frames) n)

  -- a refusal before any word
  pub not_read : (told : ReadTold) (x : Refusal) → number_of x ≡ read_refusal entropy payload frames list
      → told ≡ refuse_reading list (number_of x) → told ≡ read_entry entropy payload frames list
  unfolding read_entry
  not_read told x n a = rw (← n) (a ∙ sym (guard_refused (number_of x) (refuse_reading list) _ (number-positive x)))

  -- too many frames, and too many payload bytes: nothing is read
  pub long_frames : max_frames < frames → read_entry entropy payload frames list ≡ refuse_reading list 5
  unfolding read_entry
  long_frames h = rw (← refused_frames h)

  pub long_payload : max_payload_bytes < length payload → read_entry entropy payload frames list ≡ refuse_reading list 5
  unfolding read_entry
  long_payload h = rw (← refused-payload h)

  -- the words
  pub all_read : (told : ReadTold) (seeds : MedianPair) → 0 ≡ read_refusal entropy payload frames list
      → seeds ≡ seed_medians entropy → length list ≡ 2 * frames
      → told ≡ read_words payload seeds (length list) list → told ≡ read_entry entropy payload frames list
  unfolding read_entry
  all_read told seeds n e l t = rw (← n) (t ∙ ap₂ (λ (m : ℕ) (s : MedianPair). read_words payload s m list) l e)
