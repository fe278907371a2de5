-- The answers of the writer: two refusals, and the recording's blocks.
-- Assumes nothing.
use mathlib.Core.Path.{◌≡◌, sym, ◌∙◌}
use mathlib.Core.List.{List, ◌++◌}
use Prim.Native.Nat.{ℕ, ◌+◌, ◌*◌, ◌/◌, ◌≤◌, ◌<◌}
use native.Mathlib.Omega.{arith}
use borrow.Author.Tests.{lt-ltb, le-ltb}
use lib.ListN.{length}
use Rattle.answers.specs.Limits.{max_payload_bytes}
use Rattle.overlay.specs.Overlay.{overlay}
use Rattle.archive.specs.Recording.{Recording, head, stream, blocks_for, numbered, joined, recording_bytes}
use Rattle.archive.proofs.BlockLaws.{stream-length, recording_length}
use Rattle.archive_writer.specs.Write.{write_refusal, tell_write, write_entry}

module _ (r : Recording) where
  -- how many bytes the blocks take
  pub bytes-asked : length (recording_bytes r) ≡ 512 * ((length r.payload + 515) / 504)
  bytes-asked = recording_length r ∙ omega arith

  -- nothing is refused
  write_none : (room : ℕ) → length r.payload ≤ max_payload_bytes → length (recording_bytes r) ≤ room
      → write_refusal r room ≡ 0
  unfolding write_refusal
  write_none room h l =
      rw (le-ltb max_payload_bytes (length r.payload) h, le-ltb room (length (recording_bytes r)) l)

  module _ (out : List ℕ) where
    -- 5: a longer payload
    pub write_long : max_payload_bytes < length r.payload
        → record { refusal = 5; bytes = 0; out = out } ≡ write_entry r out
    unfolding write_entry write_refusal
    write_long h = rw (lt-ltb max_payload_bytes (length r.payload) h)

    -- 11: storage shorter than the blocks take
    pub write_short : length r.payload ≤ max_payload_bytes
        → length out < 512 * ((length r.payload + 515) / 504)
        → record { refusal = 11; bytes = 0; out = out } ≡ write_entry r out
    unfolding write_entry write_refusal
    write_short h l =
        let e = bytes-asked in
        let short : length out < length (recording_bytes r) = omega arith in
        rw (le-ltb max_payload_bytes (length r.payload) h, lt-ltb (length out) _ short)

    -- what is told where nothing is refused
    pub write_told : length r.payload ≤ max_payload_bytes → length (recording_bytes r) ≤ length out
        → write_entry r out ≡ tell_write out (recording_bytes r)
    unfolding write_entry
    write_told h l = rw (write_none (length out) h l)

    -- the blocks
    pub write_done : (count : ℕ) (front after : List ℕ) → count ≡ (length r.payload + 515) / 504
        → length r.payload ≤ max_payload_bytes → 512 * count ≤ length out
        → front ≡ head r.house r.start r.issue (length r.payload)
        → after ≡ overlay out 0 (joined (numbered count 0 (front ++ r.payload)))
        → record { refusal = 0; bytes = 512 * count; out = after } ≡ write_entry r out
    unfolding stream
    write_done count front after k h l f a =
        let e : length (recording_bytes r) ≡ 512 * count = omega (arith, bytes-asked) in
        let n : count ≡ blocks_for (length (stream r)) = rw (stream-length r) (omega arith) in
        let b : joined (numbered count 0 (front ++ r.payload)) ≡ recording_bytes r = rw (n, f) in
        rw (a, b, ← e) (sym (write_told h (omega arith)))
