-- `turns::turn` meets its contract in analysis. Assumes nothing.
use mathlib.Core.Bool.{true, false}
use borrow.Author.Tests.{ne_eqb}
use Rattle.std.proofs.Common.{rules}
use Rattle.pass_turns.proofs.TurnLaws.{analysis-raw}
use Rattle.pass_turns.proofs.turns.turn.Goals as goal

pub returns-then-this-ne0-2 : goal.returns-then-this-ne0-2
returns-then-this-ne0-2 g c =
    rw (ne_eqb g.row.CLIP 0 c.if-this-ne0-2.true) (analysis-raw true c.args.weight c.args.delta c.args.source c.args.x c.in-Analysis.is c.residual_of-res.ensures c.update_weight_clip_late-weight.ensures
    c.ranges.weight c.ranges.delta c.ranges.source c.ranges.x (search rules) (search rules))

pub returns-else-this-ne0-2 : goal.returns-else-this-ne0-2
returns-else-this-ne0-2 g c =
    rw c.if-this-ne0-2.false (analysis-raw false c.args.weight c.args.delta c.args.source c.args.x c.in-Analysis.is c.residual_of-res.ensures c.update_weight-weight-else-this-ne0-2.ensures
    c.ranges.weight c.ranges.delta c.ranges.source c.ranges.x (search rules) (search rules))
