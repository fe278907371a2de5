-- `block_faults::Position::announced_by` meets its contract: the number in bytes 12 to 15 of a first block.
-- Assumes nothing.
use mathlib.Core.Path.{◌∙◌}
use native.Mathlib.Omega.{arith}
use Rattle.block_faults.proofs.AskedLaws.{announced_first, announced_before}
use Rattle.block_faults.proofs.Position.announced_by.Goals as goal

pub returns-then-self-gt0-clause-announced : goal.returns-then-self-gt0-clause-announced
returns-then-self-gt0-clause-announced c = announced_before _ _ _ c.if-self-gt0.true

pub returns-clause-announced : goal.returns-clause-announced
returns-clause-announced c = c.number_at.ensures.is ∙ announced_first _ _ _ (omega arith)
