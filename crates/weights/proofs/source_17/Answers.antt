-- `weights::source_17` meets its contract. Assumes nothing.
use Rattle.std.proofs.Common.{rules, pos}
use Rattle.weights.specs.Weights.{source17}
use Rattle.wrapping.proofs.StdWrap.{product_less}
use Rattle.weights.proofs.source_17.Goals as goal

pub returns : goal.returns
unfolding source17
returns c = product_less c.args.last (pos 2) c.args.before c.ranges.last (search rules) c.ranges.before
