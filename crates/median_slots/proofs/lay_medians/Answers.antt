-- `median_slots::lay_medians` meets its contract.
-- Assumes nothing.
use borrow.Author.Rules.{rules}
use Rattle.median_slots.proofs.MedianSlotLaws.{medians-laid}
use Rattle.median_slots.proofs.lay_medians.Goals as goal

pub returns : goal.returns
returns c =
    medians-laid c.args.medians c.args.at c.args.slots.now _ _ (search rules) c.requires (search rules) (search rules)
    c.lay.ensures c.lay-2.ensures
