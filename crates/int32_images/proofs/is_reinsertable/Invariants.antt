-- `int32_images::is_reinsertable` meets its contract. The loop's invariant: what was found of
-- the first i samples, joined to the test of the others, is that of all.
-- Assumes nothing.
use Rattle.int32_sample.specs.Setting.{setting}
use Rattle.int32_images.proofs.TestLaws.{Tested}
use Rattle.int32_images.proofs.is_reinsertable.Given as goal

abbrev pub invariant-loop-sample : goal.invariant-loop-sample
invariant-loop-sample l = Tested (setting l.fn.bits.zeros l.fn.bits.ones l.fn.bits.dups) l.samples l.all l.sample-index
