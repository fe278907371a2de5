-- `block_faults::Position::is_last` meets its contract: its test is the definition's.
-- Assumes nothing.
use mathlib.Core.Path.{refl}
use Rattle.archive.specs.Faults.{finished}
use Rattle.block_faults.proofs.Position.is_last.Goals as goal

pub returns : goal.returns
unfolding finished
returns c = refl
