-- `archive_reader::deliver`: the loop's invariant is that the walk has come to recording `first`, and that
-- those in force before it are laid. The measure is how many recordings are left.
-- Assumes nothing.
use Prim.Native.Nat.{◌-◌}
use lib.ListN.{length}
use Rattle.archive.specs.Listing.{recordings_of, listed, payloads}
use Rattle.archive_payloads.specs.Kept.{kept, DoneIs}
use Rattle.archive_payloads.proofs.LaidLaws.{Grown}
use Rattle.archive_reader.proofs.deliver.Given as goal

abbrev pub invariant-loop-done : goal.invariant-loop-done
invariant-loop-done l =
    let file = l.file.bytes.now in
    DoneIs file l.first l.done.place l.done.recordings l.done.bytes
    × Grown l.initial.list l.list 0 (listed (kept file l.first))
    × Grown l.initial.out l.out 0 (payloads (kept file l.first))

abbrev pub decreases-loop-done : goal.decreases-loop-done
decreases-loop-done l = length (recordings_of l.file.bytes.now) - l.first
