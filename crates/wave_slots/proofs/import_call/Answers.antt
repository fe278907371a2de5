-- `wave_slots::import_call` meets its contract: one law for each of its three answers.
-- Assumes nothing.
use native.Mathlib.Omega.{arith}
use Rattle.std.proofs.lemmas.Result.{err_from_is_err_and}
use Rattle.wave_slots.proofs.WaveSlotLaws.{import_short, import_refused, import_laid}
use Rattle.wave_slots.proofs.import_call.Goals as goal

pub returns-then-answer-lt2 : goal.returns-then-answer-lt2
returns-then-answer-lt2 c = import_short _ _ _ (omega (arith, c.if-answer-lt2.true))

pub returns-in_err-told : goal.returns-in_err-told
returns-in_err-told c =
    let p = err_from_is_err_and c.from_residual.result c.from_residual.ensures.1 in
    rw (p.1, p.2) (import_refused _ _ _ _ _ c.if-answer-lt2.false c.in_err-told.ensures)

pub returns : goal.returns
returns c = import_laid _ _ _ _ _ _ c.if-answer-lt2.false c.in_ok-told.ensures c.lay.ensures
