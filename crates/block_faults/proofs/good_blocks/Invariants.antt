-- `block_faults::good_blocks`: the loop's invariant is that the blocks before what is left are right, and
-- that with what is left they count as the whole file does.
-- Assumes nothing.
use Rattle.std.specs.Slice.Iter.{chunks_rest, chunks_size}
use Rattle.block_faults.proofs.GoodLaws.{Judged, Left}
use Rattle.block_faults.proofs.good_blocks.Given as goal

abbrev pub invariant-loop-i : goal.invariant-loop-i
invariant-loop-i l =
    Left l.file l.i-iterator.count (chunks_size l.i-iterator.iter) (chunks_rest l.i-iterator.iter)
    × Judged l.file l.position.announced l.position.before l.i-iterator.count
