-- Bits of a payload as one number (R3): a window of so many bits at a place, the lowest first.
-- Assumes nothing.
use Rattle.std.specs.Prelude.{◌≡◌, Bool, List, ◌++◌, ℕ, ◌+◌, ◌^◌, ◌≤◌, ◌<◌, length, drop}
use Rattle.bits.specs.Bits.{low}

-- the j low bits of x stand at p, and x has no others
pub record Window (bits : List Bool) (p j x : ℕ) : Type 0 where
  pub small : x < 2 ^ j
  pub room : p + j ≤ length bits
  pub stands : drop p bits ≡ low j x ++ drop (p + j) bits
