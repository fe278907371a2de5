-- `archive_keys::chain`: the loop's invariant is that the first i keys are chained.
-- Assumes nothing.
use Rattle.archive_keys.specs.Chains.{Chained}
use Rattle.archive_keys.proofs.chain.Given as goal

abbrev pub invariant-loop-i : goal.invariant-loop-i
invariant-loop-i l = Chained l.keys l.i l.heads l.links
