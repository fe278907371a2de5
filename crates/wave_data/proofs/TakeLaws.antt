-- The samples of a file, copied one after the other.
-- Assumes nothing.
use mathlib.Core.Path.{◌≡◌, sym, ap, ap₂, ◌∙◌}
use mathlib.Core.List.{List}
use Prim.Native.Nat.{ℕ, ◌+◌, ◌*◌, ◌≤◌, ◌<◌}
use native.Mathlib.Nat.{zero-add}
use native.Mathlib.Numerals.{add-one}
use native.Mathlib.Omega.{arith}
use lib.IntN.{ℤ, pos}
use lib.ListN.{length, drop, get_or, set, length-set, length-drop}
use lib.Seq.{paste, paste-suc, get_or-drop}
use Rattle.overlay.specs.Overlay.{overlay}
use Rattle.overlay.proofs.OverlayLaws.{overlay_copied}
use Rattle.little_endian.specs.LittleEndian.{signed_word}
use Rattle.wave_file.specs.File.{header_bytes}
use Rattle.wave_data.specs.Data.{file_samples}
use Rattle.wave_data.proofs.SampleLaws.{samples-at, file_samples_lem}

-- the first i samples are copied
pub record Taken (file : List ℕ) (before samples : List ℤ) (i : ℕ) : Type 0 where
  pub here : i ≤ length (file_samples file)
  pub same_length : length samples ≡ length before
  pub copied : samples ≡ paste before 0 (file_samples file) i

module _ (file : List ℕ) (before : List ℤ) where
  -- the two bytes of one of them
  sample-at : (i : ℕ) → i < length (file_samples file)
      → signed_word (get_or file (header_bytes + 2 * i) 0) (get_or file (header_bytes + 2 * i + 1) 0)
      ≡ get_or (file_samples file) i (pos 0)
  sample-at i h =
      let n = length-drop header_bytes file in
      let m = file_samples_lem file in
      let e : header_bytes + (2 * i + 1) ≡ header_bytes + 2 * i + 1 = omega arith in
      let next = get_or-drop header_bytes file (2 * i + 1) 0 ∙ ap (λ (n : ℕ). get_or file n 0) e in
      sym (samples-at (drop header_bytes file) i (omega arith)
      ∙ ap₂ signed_word (get_or-drop header_bytes file (2 * i) 0) next)

  -- one more
  pub taken_more : (samples : List ℤ) (i : ℕ) (z : ℤ) → length (file_samples file) ≤ length before
      → i < length (file_samples file) → Taken file before samples i
      → z ≡ signed_word (get_or file (header_bytes + 2 * i) 0) (get_or file (header_bytes + 2 * i + 1) 0)
      → Taken file before (set samples i z) (i + 1)
  taken_more samples i z r h t e =
      record {
        here = omega arith;
        same_length = length-set samples i z ∙ t.same_length;
        copied = rw (e ∙ sample-at i h, t.copied, add-one i)
            (ap
            (λ (n : ℕ). set (paste before 0 (file_samples file) i) n (get_or (file_samples file) i (pos 0)))
            (sym (zero-add i))
            ∙ paste-suc before 0 (file_samples file) i (pos 0) (omega arith) h);
      }

  -- all of them
  pub taken-all : (samples : List ℤ) (i : ℕ) → length (file_samples file) ≤ i → Taken file before samples i
      → samples ≡ overlay before 0 (file_samples file)
  taken-all samples i h t = t.copied
      ∙ overlay_copied before (file_samples file) 0 i (let k = t.here in omega arith)
