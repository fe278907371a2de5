-- `wave_import::import_refusal` meets its contract: one law for each of its answers.
-- Assumes nothing.
use mathlib.Core.Path.{sym, ◌∙◌}
use native.Mathlib.Omega.{arith}
use Rattle.wave_data.proofs.SampleLaws.{file_samples_lem}
use Rattle.wave_header.proofs.WaveLaws.{wave-parts}
use Rattle.wave_import.proofs.ImportLaws.{import_long, import_other, import_room, import_none}
use Rattle.wave_import.proofs.import_refusal.Goals as goal

pub returns-then-file-gt-MAX_FILE_BYTES : goal.returns-then-file-gt-MAX_FILE_BYTES
returns-then-file-gt-MAX_FILE_BYTES c = import_long _ _ c.if-file-gt-MAX_FILE_BYTES.true

pub returns-then-not-is_wave : goal.returns-then-not-is_wave
returns-then-not-is_wave c =
    import_other _ _ c.if-file-gt-MAX_FILE_BYTES.false (sym c.is_wave.ensures ∙ c.if-not-is_wave.true)

-- it is a sound file, so it has a header
pub overflow_sub-file : goal.overflow_sub-file
overflow_sub-file c =
    let long = (wave-parts _ (sym c.is_wave.ensures ∙ c.if-not-is_wave.false)).long in
    omega arith

pub returns-then-room-file : goal.returns-then-room-file
returns-then-room-file c =
    let n = file_samples_lem c.args.file.now in
    import_room _ _ c.if-file-gt-MAX_FILE_BYTES.false (sym c.is_wave.ensures ∙ c.if-not-is_wave.false)
    (omega arith)

pub returns : goal.returns
returns c =
    let n = file_samples_lem c.args.file.now in
    import_none _ _
    (record {
      few = c.if-file-gt-MAX_FILE_BYTES.false;
      wave = sym c.is_wave.ensures ∙ c.if-not-is_wave.false;
      enough = omega arith;
    })
