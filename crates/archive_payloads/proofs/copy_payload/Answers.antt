-- `archive_payloads::copy_payload` meets its contract: each part lies within the file.
-- Assumes nothing.
use mathlib.Core.Path.{◌≡◌}
use mathlib.Core.List.{List}
use Prim.Native.Nat.{ℕ, ◌+◌, ◌-◌, ◌≤◌, ◌<◌}
use native.Mathlib.Omega.{arith}
use lib.ListN.{length, take, drop}
use Rattle.archive.specs.Listing.{recordings_of, Sound}
use Rattle.archive.specs.Places.{At, recording_at, no_recording}
use Rattle.archive.proofs.PlaceLaws.{span-at}
use Rattle.archive_payloads.specs.Kept.{PartIs, source_of}
use Rattle.archive_payloads.proofs.CopyLaws.{part-fits, part-is, copied_none, copied_more}
use Rattle.archive_payloads.proofs.copy_payload.Goals as goal

module _ {file : List ℕ} (sound : Sound file) {place i : ℕ} (a : At file place i)
    (one : i < length (recordings_of file)) {n : ℕ} (size : n ≡ length (recording_at file i).payload) where
  -- the payload is as long as it may be
  limit : n ≤ 4194304
  limit = let l = (span-at sound.in_span i no_recording one).length in omega arith

  -- the part that is copied next lies within the file
  fits : (done count : ℕ) → PartIs done n count → source_of place done + count ≤ length file
  fits done count p = part-fits file place i a one done count (rw (← size) p)

  -- and is the payload's
  next-is : (done count from : ℕ) → PartIs done n count → from ≡ source_of place done
      → take (from + count - from) (drop from file) ≡ take count (drop done (recording_at file i).payload)
  next-is done count from p e =
      let k : from + count - from ≡ count = omega arith in
      rw (k, e) (part-is file place i a one done count (rw (← size) p))

pub loop-done-init : goal.loop-done-init
loop-done-init c = copied_none _ _ _ (omega (arith, c.requires.size, c.requires.room))

pub part-count-requires : goal.part-count-requires
part-count-requires c =
    let r = c.requires in
    let sound = c.args.file.sound in
    (omega arith, omega (arith, limit sound r.place r.one r.size))

pub source-from-requires : goal.source-from-requires
source-from-requires c =
    let r = c.requires in
    let sound = c.args.file.sound in
    let l = limit sound r.place r.one r.size in
    let f = fits sound r.place r.one r.size _ _ c.part-count.ensures in
    (omega arith, omega arith)

pub overflow_add-end : goal.overflow_add-end
overflow_add-end c =
    let r = c.requires in
    let sound = c.args.file.sound in
    omega (arith, fits sound r.place r.one r.size _ _ c.part-count.ensures, c.source-from.ensures)

pub slice_bounds-put_text-end : goal.slice_bounds-put_text-end
slice_bounds-put_text-end c =
    let r = c.requires in
    let sound = c.args.file.sound in
    omega (arith, fits sound r.place r.one r.size _ _ c.part-count.ensures, c.source-from.ensures)

pub loop-done-preserved : goal.loop-done-preserved
loop-done-preserved c =
    let r = c.requires in
    let sound = c.args.file.sound in
    let p = c.part-count.ensures in
    copied_more _ _ _ (omega (arith, r.size, r.room)) _ _ _ _ _ c.loop-done.invariant
    (omega (arith, p.left, r.size)) (next-is sound r.place r.one r.size _ _ _ p c.source-from.ensures)
    c.put_text.ensures.bytes
