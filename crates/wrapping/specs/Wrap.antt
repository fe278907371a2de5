-- Document 01, "Passes": signed arithmetic "kept to 32 bits" (P6, P7), on whole numbers of any
-- size. Assumes nothing.
use Rattle.std.specs.Prelude.{ℕ, ◌-◌, ◌%◌, ◌/◌, ℤ, pos, negsuc}
use Rattle.std.specs.Int.{w32}
use Rattle.std.proofs.Common.{to_z}

-- z modulo 2 to the 32, from 0 up: its low 32 bits
unfoldable pub low32 : ℤ → ℕ
low32 (pos n) = n % 4294967296
low32 (negsuc n) = 4294967295 - n % 4294967296

-- z kept to 32 bits: its low 32 bits, read as two's complement
unfoldable pub wrap32 : ℤ → ℤ
wrap32 z = to_z w32 (low32 z)

-- z divided by m, rounded down: what a right shift gives, m being 2 to the number of places
abbrev pub floor_div : ℤ → ℕ → ℤ
floor_div (pos n) m = pos (n / m)
floor_div (negsuc n) m = negsuc (n / m)
