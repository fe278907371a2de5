-- `int32_slots::deconstruct_call` meets its contract: one law for each of its three answers.
-- Assumes nothing.
use Rattle.std.proofs.lemmas.Result.{err_from_is_err_and}
use Rattle.int32_slots.proofs.Int32SlotLaws.{deconstruct_short, deconstruct_refused, deconstruct_laid}
use Rattle.int32_slots.proofs.deconstruct_call.Goals as goal

pub returns-then-answer-lt1 : goal.returns-then-answer-lt1
returns-then-answer-lt1 c = deconstruct_short _ _ _ _ c.if-answer-lt1.true

pub returns-in_err-written : goal.returns-in_err-written
returns-in_err-written c =
    let p = err_from_is_err_and c.from_residual.result c.from_residual.ensures.1 in
    rw (p.1, p.2) (deconstruct_refused _ _ _ _ _ _ _ c.if-answer-lt1.false c.in_err-written.ensures)

pub returns : goal.returns
returns c = deconstruct_laid _ _ _ _ _ _ _ _ c.if-answer-lt1.false c.in_ok-written.ensures c.lay.ensures
