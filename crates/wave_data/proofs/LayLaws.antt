-- The frames laid after the header, one after the other.
-- Assumes nothing.
use mathlib.Core.Path.{◌≡◌, refl, sym, ap, ◌∙◌}
use mathlib.Core.List.{List, [], ◌∷◌, ◌++◌, append_assoc}
use Prim.Native.Nat.{ℕ, suc, ◌+◌, ◌*◌, ◌/◌, ◌≤◌, ◌<◌}
use native.Mathlib.Omega.{arith}
use lib.IntN.{ℤ, pos}
use lib.ListN.{length, take, get_or}
use lib.Seq.{length-take-le, take_all}
use Rattle.answers.specs.Lists.{Fitting}
use Rattle.overlay.specs.Overlay.{overlay}
use Rattle.overlay.proofs.OverlayLaws.{overlay_none, overlay_two, overlay_length}
use Rattle.little_endian.specs.LittleEndian.{little_endian, signed_bytes}
use Rattle.wave_file.specs.File.{header_bytes, data_bytes}
use Rattle.wave_data.specs.Data.{file_bytes}
use Rattle.wave_file.proofs.FileLaws.{data_length, data_suc}

-- the list and the buffer are right
abbrev pub Fits : List ℤ → ℕ → Type 0
Fits samples room = Fitting (length samples) (file_bytes (length samples)) room

-- the bytes of a frame, one by one
pub frame_is : (l r : ℤ) (first second : List ℕ) → first ≡ signed_bytes l → second ≡ signed_bytes r
    → get_or first 0 0 ∷ get_or first 1 0 ∷ get_or second 0 0 ∷ get_or second 1 0 ∷ []
    ≡ signed_bytes l ++ signed_bytes r
unfolding little_endian
frame_is l r first second e f = rw (e, f)

-- they are four
four_bytes : (l r : ℤ) → length (signed_bytes l ++ signed_bytes r) ≡ 4
unfolding little_endian
four_bytes l r = refl

-- the first i frames are laid
pub record Laid (samples : List ℤ) (before out : List ℕ) (i : ℕ) : Type 0 where
  pub here : 2 * i ≤ length samples
  pub same_length : length out ≡ length before
  pub bytes : out ≡ overlay before header_bytes (data_bytes (take (2 * i) samples))

module _ (samples : List ℤ) (before : List ℕ) (f : Fits samples (length before)) where
  -- none of them
  pub laid_none : Laid samples before before 0
  unfolding data_bytes
  laid_none =
      record { here = omega arith; same_length = refl; bytes = sym (overlay_none before header_bytes) }

  -- the bytes of one frame more
  data_frame : (i : ℕ) → 2 * i + 1 < length samples
      → data_bytes (take (2 * (i + 1)) samples)
      ≡ data_bytes (take (2 * i) samples) ++
      (signed_bytes (get_or samples (2 * i) (pos 0)) ++ signed_bytes (get_or samples (2 * i + 1) (pos 0)))
  data_frame i h =
      let n : 2 * (i + 1) ≡ suc (2 * i + 1) = omega arith in
      let m : 2 * i + 1 ≡ suc (2 * i) = omega arith in
      ap (λ (x : ℕ). data_bytes (take x samples)) n ∙ data_suc samples (2 * i + 1) h
      ∙ ap (λ (x : List ℕ). x ++ signed_bytes (get_or samples (2 * i + 1) (pos 0)))
      (ap (λ (x : ℕ). data_bytes (take x samples)) m ∙ data_suc samples (2 * i) (omega arith))
      ∙ append_assoc (data_bytes (take (2 * i) samples)) (signed_bytes (get_or samples (2 * i) (pos 0)))
      (signed_bytes (get_or samples (2 * i + 1) (pos 0)))

  -- one frame more
  pub laid_more : (out after : List ℕ) (i : ℕ) → 2 * i + 1 < length samples → Laid samples before out i
      → after ≡ overlay out (header_bytes + 4 * i)
      (signed_bytes (get_or samples (2 * i) (pos 0)) ++ signed_bytes (get_or samples (2 * i + 1) (pos 0)))
      → Laid samples before after (i + 1)
  laid_more out after i h l e =
      let d = data_bytes (take (2 * i) samples) in
      let frame = signed_bytes (get_or samples (2 * i) (pos 0)) ++ signed_bytes
      (get_or samples (2 * i + 1) (pos 0)) in
      let k = f.enough in
      let n : header_bytes + length d ≡ header_bytes + 4 * i =
      let m = data_length (take (2 * i) samples) in let t = length-take-le (2 * i) samples (omega arith) in
      omega arith in
      let all : after ≡ overlay before header_bytes (d ++ frame) =
      overlay_two before out after header_bytes (header_bytes + 4 * i) d frame (omega arith) n l.bytes e in
      record {
        here = omega arith;
        same_length = ap length e
            ∙ overlay_length out (header_bytes + 4 * i) frame
            (let q = frame-length i in let s = l.same_length in omega arith) ∙ l.same_length;
        bytes = all ∙ ap (overlay before header_bytes) (sym (data_frame i h));
      }
    where
      frame-length : (i : ℕ)
          → length (signed_bytes (get_or samples (2 * i) (pos 0)) ++ signed_bytes
          (get_or samples (2 * i + 1) (pos 0))) ≡ 4
      frame-length i = four_bytes (get_or samples (2 * i) (pos 0)) (get_or samples (2 * i + 1) (pos 0))

  -- all of them
  pub laid-all : (out : List ℕ) (i : ℕ) → length samples / 2 ≤ i → Laid samples before out i
      → out ≡ overlay before header_bytes (data_bytes samples)
  laid-all out i h l =
      let w = f.whole_frames in
      l.bytes ∙ ap (λ (x : List ℤ). overlay before header_bytes (data_bytes x))
      (take_all (2 * i) samples (omega arith))
