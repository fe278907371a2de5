-- Document 02 §9: a block of an archive, and its check (Q9.1, Q9.2). "Numbers are little-endian."
-- Assumes nothing.
use Rattle.std.specs.Prelude.{Bool, List, [], ◌∷◌, ◌++◌, ℕ, ◌+◌, ◌-◌, ◌*◌, ◌<◌, eqb, length, take, drop, get_or, replicate}
use Rattle.little_endian.specs.LittleEndian.{little_endian, from_little_endian}

-- the bytes of a block, those that its check is over, and those of its data
abbrev pub block_bytes : ℕ
block_bytes = 512

abbrev pub checked_bytes : ℕ
checked_bytes = 508

abbrev pub max_used : ℕ
max_used = 504

-- each is a byte
abbrev pub Bytes : List ℕ → Type 0
Bytes list = (i : ℕ) → get_or list i 0 < 256

-- "the sum of (position + 1) × byte", where the first of the bytes stands at a position (Q9.2)
unfoldable pub weighted_from : ℕ → List ℕ → ℕ
weighted_from position [] = 0
weighted_from position (byte ∷ bytes) = (position + 1) * byte + weighted_from (position + 1) bytes

-- ".. over positions 0 to 507"
abbrev pub check_of : List ℕ → ℕ
check_of block = weighted_from 0 (take checked_bytes block)

-- what stands before the check: number, used bytes, the data, and "zeros behind the used ones" (Q9.1)
unfoldable pub block_body : ℕ → List ℕ → List ℕ
block_body number used =
    little_endian 2 number ++ little_endian 2 (length used) ++ used ++ replicate (max_used - length used) 0

-- the block of a number and its used bytes
unfoldable pub block : ℕ → List ℕ → List ℕ
block number used = block_body number used ++ little_endian 4 (check_of (block_body number used))

-- the number that a block holds from a place on, in so many bytes
abbrev pub number_at : List ℕ → ℕ → ℕ → ℕ
number_at block at count = from_little_endian (take count (drop at block))

-- a block's parts, where they stand
abbrev pub number_in : List ℕ → ℕ
number_in block = number_at block 0 2

abbrev pub used_in : List ℕ → ℕ
used_in block = number_at block 2 2

abbrev pub check_in : List ℕ → ℕ
check_in block = number_at block 508 4

-- the used data bytes, and those behind them
abbrev pub data_in : List ℕ → List ℕ
data_in block = take (used_in block) (drop 4 block)

abbrev pub filling_in : List ℕ → List ℕ
filling_in block = take (max_used - used_in block) (drop (4 + used_in block) block)

-- the check that a block holds is that of its bytes
abbrev pub passes : List ℕ → Bool
passes block = eqb (check_of block) (check_in block)
