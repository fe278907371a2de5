-- `weights::at_most_1024` meets its contract. Assumes nothing.
use Rattle.std.proofs.Common.{rules}
use mir.ValLaws.{to_z-of_z}
use mir.Syntax.{w32}
use Rattle.weights.specs.Weights.{at_most1024}
use Rattle.weights.proofs.at_most_1024.Goals as goal

pub returns : goal.returns
unfolding at_most1024
returns c = rw (to_z-of_z w32 c.min.result (search rules), c.min.ensures.value, to_z-of_z w32 _ c.ranges.x)
