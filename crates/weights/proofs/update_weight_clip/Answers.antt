-- `weights::update_weight_clip` meets its contract. Assumes nothing.
use Rattle.weights.proofs.UpdateLaws.{clip_raw}
use borrow.Author.Rules.{rules}
use Rattle.weights.proofs.update_weight_clip.Goals as goal

pub returns : goal.returns
returns c =
    let s = c in
    let f = c.ranges in
    clip_raw c.args.weight c.args.delta c.args.source c.args.res c.up_clip.ensures c.down_clip.ensures c.by_product.ensures
    c.ranges.weight c.ranges.delta c.ranges.source c.ranges.res (search rules) (search rules) (search rules)
