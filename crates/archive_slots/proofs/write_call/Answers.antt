-- `archive_slots::write_call` meets its contract: one law for each of its three answers, and one for
-- the number of bytes, which fits a slot.
-- Assumes nothing.
use native.Mathlib.Omega.{arith}
use Rattle.std.proofs.lemmas.Result.{err_from_is_err_and}
use Rattle.archive_slots.proofs.WriteSlotLaws.{write_small, write_short, write_refused, write_laid}
use Rattle.archive_slots.proofs.write_call.Goals as goal

pub returns-then-answer-lt1 : goal.returns-then-answer-lt1
returns-then-answer-lt1 c = write_short _ _ _ (omega (arith, c.if-answer-lt1.true))

pub returns-in_err-written : goal.returns-in_err-written
returns-in_err-written c =
    let p = err_from_is_err_and c.from_residual.result c.from_residual.ensures.1 in
    rw (p.1, p.2) (write_refused _ _ _ _ _ c.if-answer-lt1.false c.in_err-written.ensures)

pub overflow_cast-written : goal.overflow_cast-written
overflow_cast-written c = omega (arith, write_small _ _ _ _ _ c.in_ok-written.ensures)

pub returns : goal.returns
returns c = write_laid _ _ _ _ _ _ c.if-answer-lt1.false c.in_ok-written.ensures c.lay.ensures
