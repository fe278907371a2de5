-- The bytes of a block: its numbers, and its filling.
-- Assumes nothing.
use mathlib.Core.Path.{◌≡◌, refl}
use mathlib.Core.List.{List, [], ◌∷◌}
use Prim.Native.Nat.{ℕ, suc, ◌+◌, ◌≤◌}
use native.Mathlib.Numerals.{add-one}
use native.Mathlib.Omega.{arith}
use Rattle.std.specs.Prelude.{◌==◌}
use lib.ListN.{length, get_or, take, drop}
use lib.Seq.{drop-cons}
use Rattle.std.specs.List.{list_all}
use Rattle.archive.specs.Faults.{all_zero}

-- two bytes of a list, one by one
pub two-taken : (bytes : List ℕ) (at : ℕ) → at + 2 ≤ length bytes
    → take 2 (drop at bytes) ≡ get_or bytes at 0 ∷ get_or bytes (at + 1) 0 ∷ []
two-taken bytes at h =
    rw (add-one at, drop-cons bytes at 0 (omega arith), drop-cons bytes (suc at) 0 (omega arith))

-- every byte is 0
pub clear-is : (bytes : List ℕ) → list_all (λ (byte : ℕ). byte == 0) bytes ≡ all_zero bytes
unfolding all_zero
clear-is [] = refl
clear-is (byte ∷ bytes) = rw (clear-is bytes) refl
