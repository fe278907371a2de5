-- `archive_chunks::mark_all`: the loop's invariant is that the first `index` recordings are walked, and that
-- the next stands at `at`. The measure is what is left of the file.
-- Assumes nothing.
use Prim.Native.Nat.{◌-◌}
use lib.ListN.{length}
use Rattle.archive_chunks.proofs.WalkLaws.{Walked}
use Rattle.archive_chunks.proofs.mark_all.Given as goal

abbrev pub invariant-loop-at : goal.invariant-loop-at
invariant-loop-at l =
    let file = l.file.bytes.now in
    Walked file l.first l.keys l.count l.initial.marks l.marks l.twice l.at l.index

abbrev pub decreases-loop-at : goal.decreases-loop-at
decreases-loop-at l = length l.file.bytes.now - l.at
