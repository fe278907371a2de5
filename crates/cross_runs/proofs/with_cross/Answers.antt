-- `with_cross` meets its contract. Assumes nothing.
use Rattle.std.proofs.Common.{rules}
use Rattle.cross_runs.proofs.CrossLaws.{cross_end}
use Rattle.cross_runs.proofs.with_cross.Goals as goal

pub returns : goal.returns
returns c =
    rw c.with_state.ensures
    (cross_end c.args.second c.args.pass c.args.weight c.args.other c.args.last
    c.either-last_a.ensures c.either-last_b.ensures
    c.either-weight_a.ensures c.either-weight_b.ensures (search rules) (search rules)
    c.ranges.weight c.ranges.other c.ranges.last (search rules) (search rules)
    (search rules) (search rules) (search rules) (search rules))
