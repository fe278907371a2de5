-- Rates, how long a sound file is, and its samples one after the other.
-- Assumes nothing.
use mathlib.Core.Path.{◌≡◌, refl, sym, ap, ◌∙◌}
use mathlib.Core.Bool.{true}
use mathlib.Core.List.{List, [], ◌∷◌, ◌++◌, append_assoc, append-nil}
use Prim.Native.Nat.{ℕ, suc, ◌+◌, ◌*◌, ◌≤◌, ◌<◌}
use native.Mathlib.Omega.{arith}
use borrow.Author.Tests.{le-leb, leb-true}
use lib.Dec.{leb}
use lib.IntN.{ℤ, pos}
use lib.ListN.{length, take, get_or, length-append}
use lib.Seq.{take-suc}
use Rattle.answers.proofs.TestLaws.{both}
use Rattle.little_endian.specs.LittleEndian.{little_endian, signed_bytes}
use Rattle.wave_file.specs.File.{header_bytes, max_rate, rate_taken, fmt_chunk, wave_header}
use Rattle.wave_file.specs.File.{data_bytes, wave_file}

-- a rate in its span, both ways
pub rate_in : (rate : ℕ) → 1 ≤ rate → rate ≤ max_rate → rate_taken rate ≡ true
rate_in rate a b = rw (le-leb 1 rate a, le-leb rate max_rate b)

pub rate-out : (rate : ℕ) → rate_taken rate ≡ true → (1 ≤ rate) × (rate ≤ max_rate)
rate-out rate h =
    let b = both (leb 1 rate) (leb rate max_rate) h in (leb-true 1 rate b.0, leb-true rate max_rate b.1)

-- the header has 44 bytes
pub header-length : (rate size : ℕ) → length (wave_header rate size) ≡ header_bytes
unfolding wave_header fmt_chunk little_endian
header-length rate size = refl

-- the samples have 2 bytes each
pub data_length : (samples : List ℤ) → length (data_bytes samples) ≡ 2 * length samples
unfolding data_bytes little_endian
data_length [] = refl
data_length (s ∷ samples) = let h = data_length samples in omega arith

-- and the file has both
pub file-length : (rate : ℕ) (samples : List ℤ)
    → length (wave_file rate samples) ≡ header_bytes + 2 * length samples
unfolding wave_file
file-length rate samples =
    rw (
      length-append (wave_header rate (2 * length samples)) (data_bytes samples),
      header-length rate (2 * length samples),
      data_length samples,
    )

-- the bytes of samples behind samples
pub data_append : (a b : List ℤ) → data_bytes (a ++ b) ≡ data_bytes a ++ data_bytes b
unfolding data_bytes
data_append [] b = refl
data_append (s ∷ a) b =
    ap (λ (l : List ℕ). signed_bytes s ++ l) (data_append a b)
    ∙ sym (append_assoc (signed_bytes s) (data_bytes a) (data_bytes b))

-- the bytes of one sample more
pub data_suc : (samples : List ℤ) (i : ℕ) → i < length samples
    → data_bytes (take (suc i) samples)
    ≡ data_bytes (take i samples) ++ signed_bytes (get_or samples i (pos 0))
unfolding data_bytes
data_suc samples i h =
    ap data_bytes (take-suc samples i (pos 0) h)
    ∙ data_append (take i samples) (get_or samples i (pos 0) ∷ [])
    ∙ ap (λ (l : List ℕ). data_bytes (take i samples) ++ l)
    (append-nil (signed_bytes (get_or samples i (pos 0))))
