-- Document 01, "Reading" (R3): "Bits come lowest bit of each byte first; numbers are written low
-- bit first." A bit is a Bool, true for 1. A payload is the list of its bits, and a place is how
-- many of them lie before it.
-- Assumes nothing.
use Rattle.std.specs.Prelude.{Bool, true, false, List, [], ◌∷◌, ◌++◌, ℕ, zero, suc, ◌+◌, ◌*◌, ◌/◌, ◌%◌}

-- the number that a bit is
abbrev pub val : Bool → ℕ
val false = 0
val true = 1

-- the bit that a number below 2 is
abbrev pub bit_of : ℕ → Bool
bit_of zero = false
bit_of (suc n) = true

-- the k low bits of n, the lowest first
unfoldable pub low : ℕ → ℕ → List Bool
low zero n = []
low (suc k) n = bit_of (n % 2) ∷ low k (n / 2)

-- the number whose bits these are, the lowest first
unfoldable pub num : List Bool → ℕ
num [] = 0
num (b ∷ bs) = val b + 2 * num bs

-- the bits of a payload, the lowest bit of each byte first
unfoldable pub bits_of : List ℕ → List Bool
bits_of [] = []
bits_of (b ∷ bs) = low 8 b ++ bits_of bs

-- how many ones stand before the first zero, or before the end
unfoldable pub ones : List Bool → ℕ
ones [] = zero
ones (false ∷ bs) = zero
ones (true ∷ bs) = suc (ones bs)
