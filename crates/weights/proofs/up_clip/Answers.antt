-- `weights::up_clip` meets its contract. Assumes nothing.
use Rattle.std.proofs.Common.{rules}
use mir.Syntax.{w32}
use mir.ValLaws.{to_z-of_z}
use Rattle.wrapping.proofs.StdWrap.{sum-is}
use Rattle.weights.proofs.up_clip.Goals as goal

pub returns : goal.returns
returns c =
    rw (to_z-of_z w32 c.at_most_1024.result (search rules), c.at_most_1024.ensures, sum-is c.args.weight c.args.delta c.ranges.weight c.ranges.delta)
