-- `int32_slots::reassemble_call` meets its contract: one law for each of its three answers.
-- Assumes nothing.
use Rattle.std.proofs.lemmas.Result.{err_from_is_err_and}
use Rattle.int32_slots.proofs.Int32SlotLaws.{reassemble_short, reassemble_refused, reassemble_laid}
use Rattle.int32_slots.proofs.reassemble_call.Goals as goal

pub returns-then-answer-lt1 : goal.returns-then-answer-lt1
returns-then-answer-lt1 c = reassemble_short _ _ _ _ c.if-answer-lt1.true

pub returns-in_err-read : goal.returns-in_err-read
returns-in_err-read c =
    let p = err_from_is_err_and c.from_residual.result c.from_residual.ensures.1 in
    rw (p.1, p.2) (reassemble_refused _ _ _ _ _ _ c.if-answer-lt1.false c.in_err-read.ensures)

pub returns : goal.returns
returns c = reassemble_laid _ _ _ _ _ _ _ c.if-answer-lt1.false c.in_ok-read.ensures c.lay.ensures
