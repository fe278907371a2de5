-- `page_lines::put_lines`: the loop's invariant is that the lines before the next part are laid.
-- Assumes nothing.
use Rattle.std.specs.Slice.Iter.{chunks_rest, chunks_size}
use Rattle.page_lines.proofs.LineLaws.{Laid}
use Rattle.page_lines.proofs.PartLaws.{Left}
use Rattle.page_lines.proofs.put_lines.Given as goal

abbrev pub invariant-loop-k : goal.invariant-loop-k
invariant-loop-k l =
    Left l.samples l.k-iterator.count (chunks_size l.k-iterator.iter) (chunks_rest l.k-iterator.iter)
    × Laid l.threshold l.samples l.initial.page l.page l.place l.last l.k-iterator.count
