-- `wave_slots::export_call` meets its contract: one law for each of its three answers.
-- Assumes nothing.
use native.Mathlib.Omega.{arith}
use Rattle.std.proofs.lemmas.Result.{err_from_is_err_and}
use Rattle.wave_slots.proofs.WaveSlotLaws.{export_short, export_refused, export_laid}
use Rattle.wave_slots.proofs.export_call.Goals as goal

pub returns-then-answer-lt1 : goal.returns-then-answer-lt1
returns-then-answer-lt1 c = export_short _ _ _ _ (omega (arith, c.if-answer-lt1.true))

pub returns-in_err-written : goal.returns-in_err-written
returns-in_err-written c =
    let p = err_from_is_err_and c.from_residual.result c.from_residual.ensures.1 in
    rw (p.1, p.2) (export_refused _ _ _ _ _ _ c.if-answer-lt1.false c.in_err-written.ensures)

pub returns : goal.returns
returns c = export_laid _ _ _ _ _ _ _ c.if-answer-lt1.false c.in_ok-written.ensures c.lay.ensures
