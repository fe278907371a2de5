-- `wave_export::export_wave` meets its contract: a refusal that the tests found, or the header and
-- then the samples.
-- Assumes nothing.
use mathlib.Core.Path.{refl, sym, ap, ◌∙◌}
use Prim.Native.Nat.{◌*◌}
use native.Mathlib.Omega.{arith}
use lib.ListN.{length}
use Rattle.std.proofs.lemmas.Result.{err_from_is_err_and}
use Rattle.overlay.proofs.OverlayLaws.{overlay_length}
use Rattle.wave_file.proofs.FileLaws.{rate-out, header-length}
use Rattle.wave_export.proofs.ExportLaws.{export_ready, export_refused, export_accepted}
use Rattle.wave_export.proofs.export_wave.Goals as goal

pub returns-in_err-export_refusal : goal.returns-in_err-export_refusal
returns-in_err-export_refusal c =
    let p = err_from_is_err_and c.from_residual.result c.from_residual.ensures.1 in
    rw (p.1, p.2) (export_refused _ _ _ _ c.in_err-export_refusal.ensures)

pub overflow_cast-size : goal.overflow_cast-size
overflow_cast-size c =
    let r = export_ready _ _ _ (sym c.in_ok-export_refusal.ensures) in
    let f = r.fitting in omega arith

pub lay_header-requires-clause-rate : goal.lay_header-requires-clause-rate
lay_header-requires-clause-rate c =
    let r = export_ready _ _ _ (sym c.in_ok-export_refusal.ensures) in
    (rate-out _ r.rate_taken_lem).1

pub lay_header-requires-clause-size : goal.lay_header-requires-clause-size
lay_header-requires-clause-size c =
    let r = export_ready _ _ _ (sym c.in_ok-export_refusal.ensures) in
    let f = r.fitting in omega arith

pub lay_header-requires-clause-room : goal.lay_header-requires-clause-room
lay_header-requires-clause-room c =
    let r = export_ready _ _ _ (sym c.in_ok-export_refusal.ensures) in
    let f = r.fitting in omega arith

pub lay_frames-requires-clause-fits : goal.lay_frames-requires-clause-fits
lay_frames-requires-clause-fits c =
    let r = export_ready _ _ _ (sym c.in_ok-export_refusal.ensures) in
    let f = r.fitting in
    let n = header-length c.args.rate (2 * length c.args.samples.now) in
    let same = ap length c.lay_header.ensures
    ∙ overlay_length c.args.out.now 0 _ (omega arith) in
    record { few = f.few; whole_frames = f.whole_frames; enough = omega (arith, same) }

pub lay_frames-requires-clause-within : goal.lay_frames-requires-clause-within
lay_frames-requires-clause-within c =
    let r = export_ready _ _ _ (sym c.in_ok-export_refusal.ensures) in
    r.sixteen-bits

pub overflow_cast-result : goal.overflow_cast-result
overflow_cast-result c =
    let r = export_ready _ _ _ (sym c.in_ok-export_refusal.ensures) in
    let f = r.fitting in omega arith

pub returns : goal.returns
returns c =
    export_accepted _ _ _ _ _ _ (export_ready _ _ _ (sym c.in_ok-export_refusal.ensures))
    c.lay_header.ensures c.lay_frames.ensures refl
