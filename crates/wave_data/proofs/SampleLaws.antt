-- The samples that bytes hold, and the bytes of samples, there and back.
-- Assumes nothing.
use mathlib.Core.Path.{◌≡◌, refl, sym, ap, ap₂, ◌∙◌}
use mathlib.Core.Bool.{true}
use mathlib.Core.List.{List, [], ◌∷◌, ◌++◌}
use Prim.Native.Nat.{ℕ, zero, suc, ◌+◌, ◌-◌, ◌*◌, ◌/◌, ◌%◌, ◌<◌}
use native.Mathlib.Omega.{arith}
use borrow.Author.Tests.{lt-ltb}
use lib.IntN.{ℤ, pos}
use lib.ListN.{length, drop, get_or, length-drop}
use lib.Signed.{mag}
use mir.Syntax.{w16}
use mir.ValLaws.{to_z-Fits}
use Rattle.little_endian.specs.LittleEndian.{little_endian, signed_word}
use Rattle.little_endian.proofs.LittleEndianLaws.{signed_back, bytes_back}
use Rattle.spans.specs.Spans.{within}
use Rattle.spans.proofs.SpanLaws.{within-parts}
use Rattle.wave_file.specs.File.{header_bytes, data_bytes}
use Rattle.wave_data.specs.Data.{within16, Bytes, samples_of, file_samples}

-- one for every two bytes
pub samples-length : (bytes : List ℕ) → length (samples_of bytes) ≡ length bytes / 2
unfolding samples_of
samples-length [] = refl
samples-length (lo ∷ []) = refl
samples-length (lo ∷ hi ∷ bytes) = let h = samples-length bytes in omega arith

-- how many samples stand after the header
pub file_samples_lem : (file : List ℕ) → length (file_samples file) ≡ (length file - header_bytes) / 2
file_samples_lem file =
    samples-length (drop header_bytes file) ∙ ap (λ (n : ℕ). n / 2) (length-drop header_bytes file)

-- the sample of two bytes
pub samples-at : (bytes : List ℕ) (i : ℕ) → 2 * i + 1 < length bytes
    → get_or (samples_of bytes) i (pos 0) ≡ signed_word (get_or bytes (2 * i) 0) (get_or bytes (2 * i + 1) 0)
unfolding samples_of
samples-at [] i h = absurd (omega arith)
samples-at (lo ∷ []) i h = absurd (omega arith)
samples-at (lo ∷ hi ∷ bytes) zero h = refl
samples-at (lo ∷ hi ∷ bytes) (suc i) h =
    let e : 2 * suc i ≡ suc (suc (2 * i)) = omega arith in
    let f : 2 * suc i + 1 ≡ suc (suc (2 * i + 1)) = omega arith in
    let at : ℕ → ℕ = λ n. get_or (lo ∷ hi ∷ bytes) n 0 in
    samples-at bytes i (omega arith) ∙ ap₂ signed_word (ap at (sym e)) (ap at (sym f))

-- samples of 16 bits come back out of their bytes
pub samples_back_lem : (samples : List ℤ) → within16 samples ≡ true
    → samples_of (data_bytes samples) ≡ samples
unfolding samples_of data_bytes little_endian
samples_back_lem [] h = refl
samples_back_lem (s ∷ samples) h =
    let p = within-parts 32768 s samples h in
    ap₂ (λ (z : ℤ) (l : List ℤ). z ∷ l) (signed_back s (record { sfits = p.0 }))
    (samples_back_lem samples p.1)

-- whole samples of bytes go back to these bytes
pub data_back : (bytes : List ℕ) → Bytes bytes → length bytes % 2 ≡ 0 → data_bytes (samples_of bytes) ≡ bytes
unfolding samples_of data_bytes
data_back [] b e = refl
data_back (lo ∷ []) b e = absurd (omega arith)
data_back (lo ∷ hi ∷ bytes) b e =
    ap₂ (λ (x y : List ℕ). x ++ y) (bytes_back lo hi (b 0) (b 1))
    (data_back bytes (λ i. b (suc (suc i))) (omega arith))

-- and have 16 bits
pub samples-within : (bytes : List ℕ) → Bytes bytes → within16 (samples_of bytes) ≡ true
unfolding samples_of within
samples-within [] b = refl
samples-within (lo ∷ []) b = refl
samples-within (lo ∷ hi ∷ bytes) b =
    let l = b 0 in
    let h = b 1 in
    rw (
      lt-ltb (mag (signed_word lo hi)) 32768
          (to_z-Fits w16 (lo + 256 * hi) (record { fits = omega arith })).sfits,
      samples-within bytes
          (λ i. b (suc (suc i))),
    )
