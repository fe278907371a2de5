-- `entropy_slots::entropy_medians` meets its contract: one law for what it lays.
-- Assumes nothing.
use Rattle.entropy_slots.proofs.EntropySlotLaws.{entropy_laid}
use borrow.Author.Rules.{rules}
use Rattle.entropy_slots.proofs.entropy_medians.Goals as goal

pub returns-clause-medians : goal.returns-clause-medians
returns-clause-medians c =
    (entropy_laid c.args.entropy.now c.args.medians.now _ _ c.in_ok-info.info
    c.if-medians-lt6.false c.in_ok-info.ensures.outcome c.in_ok-info.ensures.info
    (search rules) c.lay.ensures c.lay-2.ensures).1
