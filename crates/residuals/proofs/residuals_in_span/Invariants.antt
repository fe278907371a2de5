use Rattle.std.proofs.Common.{◌≡◌}
use Rattle.std.specs.Slice.Iter.{chunks_rest, chunks_size}
use Rattle.residuals.specs.Residuals.{part_elements}
use Rattle.residuals.proofs.PartLaws.{Looked}
use Rattle.residuals.proofs.residuals_in_span.Given as goal

-- the residuals before what is left lie in the span
abbrev pub invariant-loop-part : goal.invariant-loop-part
invariant-loop-part l = (chunks_size l.part-iterator ≡ part_elements)
    × Looked l.fn.passes l.count l.recording l.list (chunks_rest l.part-iterator)
