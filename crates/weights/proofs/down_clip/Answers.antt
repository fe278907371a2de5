-- `weights::down_clip` meets its contract. Assumes nothing.
use Rattle.std.proofs.Common.{rules}
use mir.Syntax.{w32}
use mir.ValLaws.{to_z-of_z}
use Rattle.wrapping.proofs.StdWrap.{difference-is, negation-is}
use Rattle.weights.proofs.down_clip.Goals as goal

pub returns : goal.returns
returns c =
    let r = c.at_most_1024.result in
    rw (
      to_z-of_z w32 c.wrapping_neg.result (search rules),
      c.wrapping_neg.ensures,
      to_z-of_z w32 r (search rules),
      negation-is r (search rules),
      c.at_most_1024.ensures,
      difference-is c.args.delta c.args.weight c.ranges.delta c.ranges.weight,
    )
