-- `state_slots::lay_state` meets its contract.
-- Assumes nothing.
use borrow.Author.Rules.{rules}
use Rattle.word_state.specs.View.{state_of}
use Rattle.state_slots.proofs.StateSlotLaws.{totals-two, state-laid}
use Rattle.state_slots.proofs.lay_state.Goals as goal

pub returns : goal.returns
returns c =
    let totals = c.args.state.bits_read in
    state-laid c.args.place _ _ _ _ (state_of c.args.state) totals c.args.slots.now _ _ _
    c.from.ensures c.from-2.ensures c.from-3.ensures c.from-4.ensures
    c.lay.ensures c.lay_medians.ensures (totals-two totals (search rules)) c.lay-2.ensures
