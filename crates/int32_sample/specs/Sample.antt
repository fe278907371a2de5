-- Document 02 §6: a sample of 32 bits, bits put in below it, and taken out again.
-- Assumes nothing.
use Rattle.std.specs.Prelude.{ℕ, ◌%◌, ◌^◌, ℤ, pos, ◌+ℤ◌, ◌*ℤ◌}
use Rattle.wrapping.specs.Wrap.{low32, wrap32, floor_div}

-- x shifted left by k and kept to 32 bits, with the k bits of the number n below it (Q6.1)
unfoldable pub below : ℕ → ℕ → ℤ → ℤ
below k n x = wrap32 (x *ℤ pos (2 ^ k) +ℤ pos n)

-- the k low bits of x, as a number
unfoldable pub low_bits : ℕ → ℤ → ℕ
low_bits k x = low32 x % 2 ^ k

-- what stands above them: x shifted right by k, which keeps the sign (Q6.3)
unfoldable pub above : ℕ → ℤ → ℤ
above k x = floor_div x (2 ^ k)
