-- Document 01, "Passes": the term byte (P1) and the weight byte (P2). Assumes nothing.
use Rattle.std.specs.Prelude.{ℕ, zero, suc, ◌+◌, ◌*◌, ◌/◌, ◌%◌, ℤ, pos, negsuc, ◌-ℤ◌, ◌*ℤ◌}
use Rattle.std.specs.Int.{w8}
use Rattle.std.proofs.Common.{to_z}

-- "Term byte: low five bits minus 5; delta is the top three" (P1)
unfoldable pub term_of_byte : ℕ → ℤ
term_of_byte byte = pos (byte % 32) -ℤ pos 5

-- the delta of a term byte (P1)
unfoldable pub delta_of_byte : ℕ → ℤ
delta_of_byte byte = pos (byte / 32)

-- "signed n: 8n, and if positive plus (8n + 64) div 128" (P2)
unfoldable pub weight_of : ℤ → ℤ
weight_of (pos zero) = pos 0
weight_of (pos (suc k)) = pos (8 * suc k + (8 * suc k + 64) / 128)
weight_of (negsuc k) = pos 8 *ℤ negsuc k

-- the byte is read as a signed number
unfoldable pub weight_of_byte : ℕ → ℤ
weight_of_byte byte = weight_of (to_z w8 byte)
