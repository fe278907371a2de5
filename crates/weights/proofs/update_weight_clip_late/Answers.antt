-- `weights::update_weight_clip_late` meets its contract. Assumes nothing.
use Rattle.weights.proofs.UpdateLaws.{clip_raw}
use borrow.Author.Rules.{rules}
use Rattle.weights.proofs.update_weight_clip_late.Goals as goal

pub returns : goal.returns
returns c =
    let s = c in
    let f = c.ranges in
    clip_raw c.args.weight c.args.delta c.args.late c.args.early c.up_clip.ensures c.down_clip.ensures c.by_both.ensures
    c.ranges.weight c.ranges.delta c.ranges.late c.ranges.early (search rules) (search rules) (search rules)
