-- `block_faults::Position::used_asked` meets its contract.
-- Assumes nothing.
use mathlib.Core.Path.{◌∙◌}
use Rattle.block_faults.proofs.AskedLaws.{asked-is}
use Rattle.block_faults.proofs.Position.used_asked.Goals as goal

pub returns : goal.returns
returns c = c.min.ensures ∙ asked-is c.args.self.announced c.args.self.before
