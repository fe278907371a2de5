-- `archive_writer::lay_blocks` meets its contract.
-- Assumes nothing.
use native.Mathlib.Omega.{arith}
use Rattle.archive_writer.proofs.BlocksLaws.{laid_none, laid_more, laid-all}
use Rattle.archive_writer.proofs.lay_blocks.Goals as goal

pub loop-i-init : goal.loop-i-init
loop-i-init c = laid_none _ _

pub loop-i-preserved : goal.loop-i-preserved
loop-i-preserved c = laid_more _ _ _ _ _ (omega arith) c.loop-i.invariant c.lay_numbered.ensures

pub returns : goal.returns
returns c = laid-all _ _ _ _ _ (omega arith) c.loop-i.invariant
