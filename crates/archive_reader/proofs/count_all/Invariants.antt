-- `archive_reader::count_all`: the loop's invariant is that the walk has come to recording `first`, and that
-- none before it is there twice, or one is. The measure is how many recordings are left.
-- Assumes nothing.
use Prim.Native.Nat.{◌-◌}
use lib.ListN.{length}
use Rattle.archive.specs.Listing.{recordings_of}
use Rattle.archive_payloads.specs.Kept.{DoneIs}
use Rattle.archive_reader.proofs.ReaderLaws.{Apart}
use Rattle.archive_reader.proofs.count_all.Given as goal

abbrev pub invariant-loop-done : goal.invariant-loop-done
invariant-loop-done l =
    let file = l.file.bytes.now in
    DoneIs file l.first l.done.place l.done.recordings l.done.bytes × Apart file l.first l.twice

abbrev pub decreases-loop-done : goal.decreases-loop-done
decreases-loop-done l = length (recordings_of l.file.bytes.now) - l.first
