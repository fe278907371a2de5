-- Import takes just what export writes (specs/SoundFile.antt).
-- Assumes nothing.
use mathlib.Core.Path.{◌≡◌, sym, ap, ap₂, ◌∙◌}
use mathlib.Core.Bool.{true}
use mathlib.Core.List.{List, ◌++◌}
use Prim.Native.Nat.{ℕ, ◌+◌, ◌-◌, ◌*◌}
use native.Mathlib.Omega.{arith}
use lib.IntN.{ℤ}
use lib.ListN.{length, take, drop, length-drop, take-append-drop}
use lib.Seq.{take_at, drop_at, get_or-drop}
use Rattle.overlay.proofs.OverlayLaws.{overlay_take}
use Rattle.little_endian.specs.LittleEndian.{little_endian}
use Rattle.little_endian.proofs.LittleEndianLaws.{number-back}
use Rattle.wave_file.specs.File.{header_bytes, fmt_chunk, wave_header, data_bytes, wave_file}
use Rattle.wave_data.specs.Data.{Bytes, file_samples}
use Rattle.wave_export.specs.Export.{export_refusal}
use Rattle.wave_header.specs.Wave.{file_rate, is_wave}
use Rattle.wave_import.specs.Import.{import_refusal}
use Rattle.wave.specs.SoundFile.{InSpan, ExportThenImport, EveryExport, OnlyExports, NoSecondFile}
use Rattle.wave.specs.SoundFile.{ExportsInSpan, NoTwoSoundsAlike}
use Rattle.wave_file.proofs.FileLaws.{rate_in, rate-out, header-length, file-length}
use Rattle.wave_header.proofs.AlikeLaws.{alike_same, alike_is}
use Rattle.wave_data.proofs.SampleLaws.{file_samples_lem, samples_back_lem, data_back, samples-within}
use Rattle.wave_export.proofs.ExportLaws.{Ready, export_none, export_ready, export_number, export_told}
use Rattle.wave_header.proofs.WaveLaws.{Wave, wave_compared, wave-parts}
use Rattle.wave_import.proofs.ImportLaws.{Importable, import_none, importable, import_number, import_told}

-- ---- a file that export wrote

module _ (rate : ℕ) (samples : List ℤ) (s : InSpan rate samples) where
  abbrev file : List ℕ
  file = wave_file rate samples

  abbrev head : List ℕ
  head = wave_header rate (2 * length samples)

  size_is : length file - header_bytes ≡ 2 * length samples
  size_is = let n = file-length rate samples in omega arith

  head-is : take header_bytes file ≡ head
  unfolding wave_file
  head-is = take_at head (data_bytes samples) header_bytes (header-length rate (2 * length samples))

  -- it holds the rate
  rate-is : file_rate file ≡ rate
  unfolding wave_file wave_header fmt_chunk little_endian
  rate-is = number-back rate (let r = s.rate-below in omega arith)

  -- and the samples
  samples_are : file_samples file ≡ samples
  unfolding wave_file
  samples_are =
      rw (drop_at head (data_bytes samples) header_bytes (header-length rate (2 * length samples)))
      (samples_back_lem samples s.sixteen-bits)

  -- and is a sound file
  is_wave_lem : is_wave file ≡ true
  is_wave_lem =
      let n = file-length rate samples in
      let k = s.whole_frames in
      sym (wave_compared file head rate true (omega arith) (omega arith) (sym rate-is)
      (rate_in rate s.rate-above s.rate-below) (rw size_is) (sym (rw head-is (alike_same head))))

-- Q1.6, one way
pub every_export : EveryExport
every_export rate samples list s h =
    let n = file-length rate samples in
    let f = s.few in
    let i : Importable (wave_file rate samples) (length list) =
    record {
      few = omega arith;
      wave = is_wave_lem rate samples s;
      enough = rw (samples_are rate samples s) h;
    } in
    import_told (wave_file rate samples) list (sym (import_none (wave_file rate samples) (length list) i))
    ∙ rw (rate-is rate samples s, samples_are rate samples s)

-- what is in span is exported
pub exports_in_span : ExportsInSpan
exports_in_span rate samples buffer s h =
    let n = file-length rate samples in
    let r : Ready rate samples (length buffer) =
    record {
      fitting = record { few = s.few; whole_frames = s.whole_frames; enough = omega arith };
      rate_taken_lem = rate_in rate s.rate-above s.rate-below;
      sixteen-bits = s.sixteen-bits;
    } in
    export_told rate samples buffer (sym (export_none rate samples (length buffer) r))

-- the same file holds the same rate and the same samples
pub no_two_sounds_alike : NoTwoSoundsAlike
no_two_sounds_alike rate rate' one other s s' e = (
  sym (rate-is rate one s) ∙ ap file_rate e ∙ rate-is rate' other s',
  sym (samples_are rate one s) ∙ ap file_samples e ∙ samples_are rate' other s',
)

-- what export accepted is in span
ready-span : {rate : ℕ} {samples : List ℤ} {room : ℕ} → Ready rate samples room → InSpan rate samples
ready-span {rate} {samples} {room} r =
    let b = rate-out rate r.rate_taken_lem in
    record {
      rate-above = b.0;
      rate-below = b.1;
      few = r.fitting.few;
      whole_frames = r.fitting.whole_frames;
      sixteen-bits = r.sixteen-bits;
    }

-- Q1.5
pub export_then_import : ExportThenImport
export_then_import rate samples buffer list e h =
    let n : export_refusal rate samples (length buffer) ≡ 0 = sym (export_number rate samples buffer) ∙ e in
    rw (export_told rate samples buffer n, overlay_take buffer (wave_file rate samples))
    (every_export rate samples list (ready-span (export_ready rate samples (length buffer) n)) h)

-- ---- a file that import accepted

module _ (file : List ℕ) (list : List ℤ) (b : Bytes file) (i : Importable file (length list)) where
  w : Wave file
  w = wave-parts file i.wave

  abbrev size : ℕ
  size = length file - header_bytes

  -- the bytes behind the header are whole frames
  data_is : data_bytes (file_samples file) ≡ drop header_bytes file
  data_is =
      let k = w.whole_frames in
      data_back (drop header_bytes file) (λ j. rw (get_or-drop header_bytes file j 0) (b (header_bytes + j)))
      (rw (length-drop header_bytes file) (omega arith))

  count-is : 2 * length (file_samples file) ≡ size
  count-is = let k = w.whole_frames in let n = file_samples_lem file in omega arith

  -- it is the export of its rate and its samples
  file-is : file ≡ wave_file (file_rate file) (file_samples file)
  unfolding wave_file
  file-is =
      sym (take-append-drop header_bytes file)
      ∙ ap₂ (λ (x y : List ℕ). x ++ y)
      (alike_is (take header_bytes file) (wave_header (file_rate file) size) w.header
      ∙ ap (wave_header (file_rate file)) (sym count-is))
      (sym data_is)

  -- which are in span
  span-is : InSpan (file_rate file) (file_samples file)
  span-is =
      let r = rate-out (file_rate file) w.rate_taken_lem in
      let k = w.whole_frames in
      let n = file_samples_lem file in
      let f = i.few in
      record {
        rate-above = r.0;
        rate-below = r.1;
        few = omega arith;
        whole_frames = omega arith;
        sixteen-bits = samples-within (drop header_bytes file)
            (λ j. rw (get_or-drop header_bytes file j 0) (b (header_bytes + j)));
      }

-- Q1.6, the other way
pub only_exports : OnlyExports
only_exports file list b e =
    let n : import_refusal file (length list) ≡ 0 = sym (import_number file list) ∙ e in
    let i = importable file (length list) n in
    rw (import_told file list n)
    (record {
      in_span = rw (overlay_take list (file_samples file)) (span-is file list b i);
      the_export = rw (overlay_take list (file_samples file)) (file-is file list b i);
    })

-- two files that tell the same sound are both its export
pub no_second-file : NoSecondFile
no_second-file one other list list' b b' e e' r s =
    (only_exports one list b e).the_export ∙ ap₂ wave_file r s
    ∙ sym (only_exports other list' b' e').the_export
