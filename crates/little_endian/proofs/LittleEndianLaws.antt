-- Numbers and their bytes, there and back.
-- Assumes nothing.
use mathlib.Core.Path.{◌≡◌, refl, ap, ap₂, ◌∙◌}
use mathlib.Core.List.{List, [], ◌∷◌}
use Prim.Native.Nat.{ℕ, ◌+◌, ◌*◌, ◌/◌, ◌%◌, ◌<◌}
use native.Mathlib.Omega.{arith}
use lib.IntN.{ℤ}
use lib.ListN.{get_or}
use mir.Syntax.{w16}
use mir.Val.{to_z, of_z, SFits}
use mir.ValLaws.{to_z-of_z, of_z-to_z, of_z_fits}
use Rattle.little_endian.specs.LittleEndian.{little_endian, from_little_endian, signed_word, signed_bytes}

-- a number of 32 bits comes back out of its four bytes
pub number-back : (n : ℕ) → n < 4294967296 → from_little_endian (little_endian 4 n) ≡ n
unfolding little_endian from_little_endian
number-back n h = omega arith

-- a signed number of 16 bits comes back out of its two bytes
pub signed_back : (z : ℤ) → SFits w16 z → signed_word (get_or (signed_bytes z) 0 0) (get_or (signed_bytes z) 1 0) ≡ z
unfolding little_endian
signed_back z f =
    let h = (of_z_fits w16 z f).fits in
    let e : of_z w16 z % 256 + 256 * (of_z w16 z / 256 % 256) ≡ of_z w16 z = omega arith in
    ap (to_z w16) e ∙ to_z-of_z w16 z f

-- two bytes come back out of the signed number that they hold
pub bytes_back : (lo hi : ℕ) → lo < 256 → hi < 256 → signed_bytes (signed_word lo hi) ≡ lo ∷ hi ∷ []
unfolding little_endian
bytes_back lo hi l h =
    let e : of_z w16 (signed_word lo hi) ≡ lo + 256 * hi =
    of_z-to_z w16 (lo + 256 * hi) (record { fits = omega arith }) in
    let a : (lo + 256 * hi) % 256 ≡ lo = omega arith in
    let q : (lo + 256 * hi) / 256 ≡ hi = omega arith in
    let b : (lo + 256 * hi) / 256 % 256 ≡ hi = rw q (omega arith) in
    rw e (ap₂ (λ (x y : ℕ). x ∷ y ∷ []) a b)

-- the rate 44,100 in four bytes
rate-bytes : ◌≡◌ {A = List ℕ} (little_endian 4 44100) (68 ∷ 172 ∷ 0 ∷ 0 ∷ [])
unfolding little_endian
rate-bytes = refl
