-- `weights::residual_of` meets its contract. Assumes nothing.
use Rattle.std.proofs.Common.{rules}
use mir.Syntax.{w32}
use mir.ValLaws.{to_z-of_z}
use Rattle.weights.specs.Weights.{residual}
use Rattle.wrapping.proofs.StdWrap.{difference-is}
use Rattle.weights.proofs.residual_of.Goals as goal

pub returns : goal.returns
unfolding residual
returns c =
    rw (difference-is c.args.x c.apply_weight.result c.ranges.x (search rules), c.apply_weight.ensures, to_z-of_z w32 _ c.ranges.weight, to_z-of_z w32 _ c.ranges.source)
