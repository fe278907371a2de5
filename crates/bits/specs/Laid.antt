-- Document 01, "Packing" (K7, K8): bits laid into bytes and into a buffer. "Spare bits are 0; bytes
-- behind are untouched."
-- Assumes nothing.
use Rattle.std.specs.Prelude.{Bool, List, [], ◌∷◌, ◌++◌, ℕ, zero, suc, ◌+◌, ◌/◌, length, take, drop}
use Rattle.overlay.specs.Overlay.{overlay}
use Rattle.bits.specs.Bits.{num, bits_of}

-- n bytes of eight bits each, the lowest first; what is missing is 0
unfoldable pub bytes_of : ℕ → List Bool → List ℕ
bytes_of zero w = []
bytes_of (suc n) w = num (take 8 w) ∷ bytes_of n (drop 8 w)

-- the bytes that hold the bits w: as many as are needed, with the spare bits 0
unfoldable pub bytes_holding : List Bool → List ℕ
bytes_holding w = bytes_of ((length w + 7) / 8) w

-- the buffer once the bits f are laid into it from the place p on: the bits before p, f, spare bits
-- 0, and the bytes behind. No bits change nothing
unfoldable pub put : List ℕ → ℕ → List Bool → List ℕ
put buf p [] = buf
put buf p (b ∷ f) = overlay buf 0 (bytes_holding (take p (bits_of buf) ++ b ∷ f))
