-- A step of a walk through a file: the recording at a place, its key, and the place after it.
-- Assumes nothing.
use mathlib.Core.Path.{◌≡◌, sym, ◌∙◌}
use mathlib.Core.List.{List}
use Prim.Native.Nat.{ℕ, ◌+◌, ◌*◌, ◌<◌}
use native.Mathlib.Omega.{arith}
use lib.ListN.{length, get_or}
use Rattle.archive.specs.Recording.{Recording, InSpan, blocks_for}
use Rattle.archive.specs.Listing.{recordings_of, Sound}
use Rattle.archive.specs.Places.{At, HeadOf, no_recording, recording_at}
use Rattle.archive.proofs.PlaceLaws.{at_next, span-at}
use Rattle.archive_keys.specs.Keys.{key_of}
use Rattle.archive_keys.proofs.KeyLaws.{keys-at}
use Rattle.archive_chunks.specs.Chunks.{KeyIs, file_keys}

-- the parts of a recording in span
small-head : {r : Recording} {h s k n : ℕ} → InSpan r → HeadOf r h s k n
    → (h < 65536) × (s < 4294967296) × (k < 65536)
small-head span head =
    let a = span.house in
    let b = span.start in
    let d = span.issue in
    (omega arith, omega arith, omega arith)

-- the key of its parts is its own
key_is : {r : Recording} {h s k n : ℕ} → HeadOf r h s k n → (key : ℕ) → KeyIs h s k key → key ≡ key_of r
unfolding key_of
key_is head key e = omega arith

module _ {file : List ℕ} {place i : ℕ} (sound : Sound file) (a : At file place i)
    (one : i < length (recordings_of file)) {h s k n : ℕ} (head : HeadOf (recording_at file i) h s k n) where
  -- the parts of the key fit
  pub step_small : (h < 65536) × (s < 4294967296) × (k < 65536)
  step_small = small-head (span-at sound.in_span i no_recording one) head

  -- the key is the recording's
  pub step_key : (key : ℕ) → KeyIs h s k key → key ≡ get_or (file_keys file) i 0
  step_key key e = key_is head key e ∙ sym (keys-at (recordings_of file) i no_recording one)

  -- the next recording stands behind the bytes that this one takes
  pub step-next : (taken : ℕ) → taken ≡ 512 * blocks_for (12 + n) → At file (place + taken) (i + 1)
  step-next taken e = rw (e, head.payload) (at_next file place i a one)

  -- which are some
  pub step_moves : (taken : ℕ) → taken ≡ 512 * blocks_for (12 + n) → 0 < taken
  step_moves taken e = omega arith
