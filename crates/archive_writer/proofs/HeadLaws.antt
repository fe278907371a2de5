-- The bytes before a payload, out of the bytes of four numbers.
-- Assumes nothing.
use mathlib.Core.Path.{◌≡◌}
use mathlib.Core.List.{List, [], ◌∷◌}
use Prim.Native.Nat.{ℕ}
use lib.ListN.{get_or}
use Rattle.little_endian.specs.LittleEndian.{little_endian}
use Rattle.archive.specs.Recording.{head}

module _ (house start issue bytes : ℕ) (a b c d : List ℕ) where
  -- each number by its bytes
  pub head-is : a ≡ little_endian 2 house → b ≡ little_endian 4 start → c ≡ little_endian 2 issue
      → d ≡ little_endian 4 bytes
      → get_or a 0 0 ∷ get_or a 1 0 ∷ get_or b 0 0 ∷ get_or b 1 0 ∷ get_or b 2 0 ∷ get_or b 3 0 ∷ get_or c 0 0 ∷ get_or c 1 0
      ∷ get_or d 0 0 ∷ get_or d 1 0 ∷ get_or d 2 0 ∷ get_or d 3 0 ∷ []
      ≡ head house start issue bytes
  unfolding head little_endian
  head-is e f g h = rw (e, f, g, h)
