-- `put_bits` meets its contract: the loop has put the i low bits, and `put_low` adds those of one
-- byte.
-- Assumes nothing.
use mathlib.Core.Path.{◌≡◌}
use Prim.Native.Nat.{◌+◌, ◌-◌, ◌≤◌}
use lib.ListN.{length}
use Rattle.bits.specs.Bits.{low}
use Rattle.bits.specs.Laid.{put}
use Rattle.bit_laying.proofs.put_bits.Given as goal

abbrev pub invariant-loop-i : goal.invariant-loop-i
invariant-loop-i l = (l.i ≤ l.count) × (l.p ≡ l.at + l.i) × (length l.out ≡ length l.initial.out) × (l.out ≡ put l.initial.out l.at (low l.i l.v))

abbrev pub decreases-loop-i : goal.decreases-loop-i
decreases-loop-i l = l.count - l.i
