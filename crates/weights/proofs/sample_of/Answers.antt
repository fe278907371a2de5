-- `weights::sample_of` meets its contract. Assumes nothing.
use Rattle.std.proofs.Common.{rules}
use mir.Syntax.{w32}
use mir.ValLaws.{to_z-of_z}
use Rattle.weights.specs.Weights.{sample}
use Rattle.wrapping.proofs.StdWrap.{sum-is}
use Rattle.weights.proofs.sample_of.Goals as goal

pub returns : goal.returns
unfolding sample
returns c =
    rw (sum-is c.apply_weight.result c.args.res (search rules) c.ranges.res, c.apply_weight.ensures, to_z-of_z w32 _ c.ranges.weight, to_z-of_z w32 _ c.ranges.source)
