-- `block_check::check_of`: the loop's invariant is that the first i bytes are summed.
-- Assumes nothing.
use Rattle.block_check.proofs.CheckLaws.{Summed}
use Rattle.block_check.proofs.check_of.Given as goal

abbrev pub invariant-loop-i : goal.invariant-loop-i
invariant-loop-i l = Summed l.block l.sum l.i
