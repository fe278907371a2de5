-- `threshold::threshold_of`: the loop's invariant is that the digits passed, read on by those that are left,
-- are the whole number.
-- Assumes nothing.
use Rattle.threshold.proofs.ThresholdLaws.{Typed}
use Rattle.threshold.proofs.threshold_of.Given as goal

abbrev pub invariant-loop-byte : goal.invariant-loop-byte
invariant-loop-byte l = Typed l.text l.value l.byte-index
