-- Document 02 §1: export and import belong together, as statements over the definitions of the two
-- entries (Q1.5, Q1.6).
-- Assumes nothing.
use Rattle.std.specs.Prelude.{◌≡◌, true, List, ℕ, ◌%◌, ◌≤◌, ℤ, length, take}
use Rattle.answers.specs.Limits.{max_elements}
use Rattle.wave_file.specs.File.{max_rate, wave_file}
use Rattle.wave_data.specs.Data.{within16, Bytes}
use Rattle.wave_export.specs.Export.{ExportTold, tell_export, export_entry}
use Rattle.wave_import.specs.Import.{ImportTold, import_entry, tell_import}

-- a rate and samples in span: what a sound file can hold
pub record InSpan (rate : ℕ) (samples : List ℤ) : Type 0 where
  pub rate-above : 1 ≤ rate
  pub rate-below : rate ≤ max_rate
  pub few : length samples ≤ max_elements
  pub whole_frames : length samples % 2 ≡ 0
  pub sixteen-bits : within16 samples ≡ true

-- export writes the file of every rate and samples in span, into any buffer that is long enough
abbrev pub ExportsInSpan : Type 0
ExportsInSpan =
    (rate : ℕ) (samples : List ℤ) (buffer : List ℕ) → InSpan rate samples
    → length (wave_file rate samples) ≤ length buffer
    → export_entry rate samples buffer ≡ tell_export buffer (wave_file rate samples)

-- the bytes that export wrote
abbrev pub exported : ExportTold → List ℕ
exported told = take told.written told.bytes

-- "Export then import returns the same rate and frames" (Q1.5), into any list that is long enough
abbrev pub ExportThenImport : Type 0
ExportThenImport =
    (rate : ℕ) (samples : List ℤ) (buffer : List ℕ) (list : List ℤ)
    → (export_entry rate samples buffer).refusal ≡ 0 → length samples ≤ length list
    → import_entry (exported (export_entry rate samples buffer)) list ≡ tell_import list rate samples

-- Import accepts the export of every rate and samples in span (Q1.6) ..
abbrev pub EveryExport : Type 0
EveryExport =
    (rate : ℕ) (samples list : List ℤ) → InSpan rate samples → length samples ≤ length list
    → import_entry (wave_file rate samples) list ≡ tell_import list rate samples

-- the samples that import told
abbrev pub imported : ImportTold → List ℤ
imported told = take told.written told.samples

-- .. and nothing else: what it accepts is the export of the rate and the samples that it tells
pub record IsExport (file : List ℕ) (told : ImportTold) : Type 0 where
  pub in_span : InSpan told.rate (imported told)
  pub the_export : file ≡ wave_file told.rate (imported told)

abbrev pub OnlyExports : Type 0
OnlyExports =
    (file : List ℕ) (list : List ℤ) → Bytes file → (import_entry file list).refusal ≡ 0
    → IsExport file (import_entry file list)

-- so no second file stands for the same sound
abbrev pub NoSecondFile : Type 0
NoSecondFile =
    (one other : List ℕ) (list list' : List ℤ) → Bytes one → Bytes other
    → (import_entry one list).refusal ≡ 0 → (import_entry other list').refusal ≡ 0
    → (import_entry one list).rate ≡ (import_entry other list').rate
    → imported (import_entry one list) ≡ imported (import_entry other list') → one ≡ other

-- and no two different sounds have the same file
abbrev pub NoTwoSoundsAlike : Type 0
NoTwoSoundsAlike =
    (rate rate' : ℕ) (one other : List ℤ) → InSpan rate one → InSpan rate' other
    → wave_file rate one ≡ wave_file rate' other → (rate ≡ rate') × (one ≡ other)
