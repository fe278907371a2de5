-- Whether bytes are a sound file, test by test.
-- Assumes nothing.
use mathlib.Core.Path.{◌≡◌, sym, ap, ◌∙◌}
use mathlib.Core.Bool.{Bool, true, false, ◌&&◌}
use mathlib.Core.List.{List}
use Prim.Native.Nat.{ℕ, ◌-◌, ◌%◌, ◌≤◌, ◌<◌}
use borrow.Author.Tests.{le-leb, lt-leb, eq-eqb, ne_eqb, leb-true, eqb-true}
use lib.Dec.{leb, eqb}
use lib.ListN.{length, take}
use Rattle.answers.proofs.TestLaws.{both}
use Rattle.wave_file.specs.File.{header_bytes, rate_taken, wave_header}
use Rattle.wave_header.specs.Wave.{alike, file_rate, is_wave}

module _ (file : List ℕ) where
  -- a file that is too short for its header
  pub wave-short : length file < header_bytes → false ≡ is_wave file
  unfolding is_wave
  wave-short h = rw (lt-leb header_bytes (length file) h)

  -- half a frame
  pub wave-half : header_bytes ≤ length file → ((length file - header_bytes) % 4 ≡ 0 → ⊥)
      → false ≡ is_wave file
  unfolding is_wave
  wave-half h n = rw (le-leb header_bytes (length file) h, ne_eqb ((length file - header_bytes) % 4) 0 n)

  -- a rate outside its span
  pub wave-rate : header_bytes ≤ length file → (length file - header_bytes) % 4 ≡ 0
      → rate_taken (file_rate file) ≡ false → false ≡ is_wave file
  unfolding is_wave
  wave-rate h e r = rw (le-leb header_bytes (length file) h, eq-eqb ((length file - header_bytes) % 4) 0 e, r)

  -- the header decides
  pub wave_compared : (expected : List ℕ) (rate : ℕ) (r : Bool) → header_bytes ≤ length file
      → (length file - header_bytes) % 4 ≡ 0 → rate ≡ file_rate file
      → rate_taken rate ≡ true → expected ≡ wave_header rate (length file - header_bytes)
      → r ≡ alike (take header_bytes file) expected → r ≡ is_wave file
  unfolding is_wave
  wave_compared expected rate r h e f t x q =
      q ∙ rw (x, f) (sym (rw (
        le-leb header_bytes (length file) h,
        eq-eqb ((length file - header_bytes) % 4) 0 e,
        ap rate_taken
            (sym f) ∙ t,
      )))

-- what a sound file is
pub record Wave (file : List ℕ) : Type 0 where
  pub long : header_bytes ≤ length file
  pub whole_frames : (length file - header_bytes) % 4 ≡ 0
  pub rate_taken_lem : rate_taken (file_rate file) ≡ true
  pub header : alike (take header_bytes file)
      (wave_header (file_rate file) (length file - header_bytes)) ≡ true

-- and then all of it holds
pub wave-parts : (file : List ℕ) → is_wave file ≡ true → Wave file
unfolding is_wave
wave-parts file e =
    let size = length file - header_bytes in
    let a = both (leb header_bytes (length file) && eqb (size % 4) 0 && rate_taken (file_rate file))
    (alike (take header_bytes file) (wave_header (file_rate file) size)) e in
    let b = both (leb header_bytes (length file) && eqb (size % 4) 0) (rate_taken (file_rate file)) a.0 in
    let c = both (leb header_bytes (length file)) (eqb (size % 4) 0) b.0 in
    record {
      long = leb-true _ _ c.0;
      whole_frames = eqb-true _ _ c.1;
      rate_taken_lem = b.1;
      header = a.1;
    }
