-- `weights::source_18` meets its contract. Assumes nothing.
use Rattle.std.proofs.Common.{rules, pos}
use Rattle.weights.specs.Weights.{source18}
use Rattle.wrapping.proofs.StdWrap.{product_less, half_is}
use Rattle.weights.proofs.source_18.Goals as goal

pub returns : goal.returns
unfolding source18
returns c = rw (product_less c.args.last (pos 3) c.args.before c.ranges.last (search rules) c.ranges.before) (half_is _)
