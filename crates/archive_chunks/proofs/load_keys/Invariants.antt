-- `archive_chunks::load_keys`: the loop's invariant is that the first `count` keys are loaded, and that the
-- recording after them stands at `next`.
-- Assumes nothing.
use Rattle.archive_chunks.proofs.LoadLaws.{Loading}
use Rattle.archive_chunks.proofs.load_keys.Given as goal

abbrev pub invariant-loop-count : goal.invariant-loop-count
invariant-loop-count l = Loading l.file.bytes.now l.at l.first l.keys l.next l.count
