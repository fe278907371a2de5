-- Numbers in bytes, "little-endian": the low byte first (Q1.1, Q1.2, E1).
-- Assumes nothing.
use Rattle.std.specs.Prelude.{ℕ, zero, suc, ◌+◌, ◌*◌, ◌/◌, ◌%◌, List, [], ◌∷◌, ℤ}
use Rattle.std.specs.Int.{w16}
use Rattle.std.proofs.Common.{to_z, of_z}

-- a number in so many bytes
unfoldable pub little_endian : ℕ → ℕ → List ℕ
little_endian zero number = []
little_endian (suc count) number = number % 256 ∷ little_endian count (number / 256)

-- the number that bytes hold
unfoldable pub from_little_endian : List ℕ → ℕ
from_little_endian [] = zero
from_little_endian (byte ∷ bytes) = byte + 256 * from_little_endian bytes

-- document 01, "Entropy" (E1): a signed 16-bit word, from its low and its high byte
abbrev pub signed_word : ℕ → ℕ → ℤ
signed_word lo hi = to_z w16 (lo + 256 * hi)

-- the two bytes of a signed 16-bit number, in two's complement
abbrev pub signed_bytes : ℤ → List ℕ
signed_bytes z = little_endian 2 (of_z w16 z)
