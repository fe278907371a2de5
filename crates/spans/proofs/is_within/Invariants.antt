-- `spans::is_within` meets its contract.
-- Assumes nothing.
use Rattle.spans.proofs.SpanLaws.{Spans}
use Rattle.spans.proofs.is_within.Given as goal

abbrev pub invariant-loop-number : goal.invariant-loop-number
invariant-loop-number l = Spans l.span l.list l.outside l.number-index
