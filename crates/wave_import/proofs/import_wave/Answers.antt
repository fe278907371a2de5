-- `wave_import::import_wave` meets its contract: a refusal that the tests found, or the samples and
-- the rate.
-- Assumes nothing.
use mathlib.Core.Path.{refl, sym}
use native.Mathlib.Omega.{arith}
use Rattle.std.proofs.lemmas.Result.{err_from_is_err_and}
use Rattle.wave_header.proofs.WaveLaws.{wave-parts}
use Rattle.wave_import.proofs.ImportLaws.{importable, import_refused, import_accepted}
use Rattle.wave_import.proofs.import_wave.Goals as goal

pub returns-in_err-import_refusal : goal.returns-in_err-import_refusal
returns-in_err-import_refusal c =
    let p = err_from_is_err_and c.from_residual.result c.from_residual.ensures.1 in
    rw (p.1, p.2) (import_refused _ _ _ c.in_err-import_refusal.ensures)

pub take_samples-requires-clause-head : goal.take_samples-requires-clause-head
take_samples-requires-clause-head c =
    (wave-parts _ (importable _ _ (sym c.in_ok-import_refusal.ensures)).wave).long

pub take_samples-requires-clause-room : goal.take_samples-requires-clause-room
take_samples-requires-clause-room c = (importable _ _ (sym c.in_ok-import_refusal.ensures)).enough

pub rate_of-requires : goal.rate_of-requires
rate_of-requires c =
    (wave-parts _ (importable _ _ (sym c.in_ok-import_refusal.ensures)).wave).long

pub overflow_sub-result : goal.overflow_sub-result
overflow_sub-result c =
    (wave-parts _ (importable _ _ (sym c.in_ok-import_refusal.ensures)).wave).long

pub overflow_cast-result : goal.overflow_cast-result
overflow_cast-result c =
    let few = (importable _ _ (sym c.in_ok-import_refusal.ensures)).few in
    omega arith

pub returns : goal.returns
returns c =
    import_accepted _ _ _ _ _ (importable _ _ (sym c.in_ok-import_refusal.ensures))
    c.rate_of.ensures refl c.take_samples.ensures
