-- Bytes stored and taken one after the other.
-- Assumes nothing.
use mathlib.Core.Path.{◌≡◌}
use mathlib.Core.List.{List, [], ◌∷◌}
use Prim.Native.Nat.{ℕ, suc, ◌+◌, ◌≤◌}
use native.Mathlib.Omega.{arith}
use lib.ListN.{length, get_or, set, take, drop}
use lib.Seq.{sets-eq, drop-cons}
use Rattle.overlay.specs.Overlay.{overlay}

-- four stores lay four bytes
pub four-laid : (out : List ℕ) (at a b c d : ℕ) (bytes : List ℕ) → at + 4 ≤ length out → a ∷ b ∷ c ∷ d ∷ [] ≡ bytes
    → set (set (set (set out at a) (at + 1) b) (at + 2) c) (at + 3) d ≡ overlay out at bytes
unfolding overlay
four-laid out at a b c d bytes h e =
    let one : at + 1 ≡ suc at = omega arith in
    let two : at + 2 ≡ suc (suc at) = omega arith in
    let three : at + 3 ≡ suc (suc (suc at)) = omega arith in
    rw (one, two, three, ← e) (sets-eq (a ∷ b ∷ c ∷ d ∷ []) out at h)

-- four bytes of a list, one by one
pub four-taken : (bytes : List ℕ) (at : ℕ) → at + 4 ≤ length bytes
    → take 4 (drop at bytes) ≡ get_or bytes at 0 ∷ get_or bytes (at + 1) 0 ∷ get_or bytes (at + 2) 0 ∷ get_or bytes (at + 3) 0 ∷ []
four-taken bytes at h =
    let one : at + 1 ≡ suc at = omega arith in
    let two : at + 2 ≡ suc (suc at) = omega arith in
    let three : at + 3 ≡ suc (suc (suc at)) = omega arith in
    rw (
      one,
      two,
      three,
      drop-cons bytes at 0 (omega arith),
      drop-cons bytes (suc at) 0 (omega arith),
      drop-cons bytes (suc (suc at)) 0 (omega arith),
      drop-cons bytes (suc (suc (suc at))) 0 (omega arith),
    )
