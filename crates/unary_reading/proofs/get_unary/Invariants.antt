-- `get_unary` meets its contract: the loop has passed ones only, and by `counted` the window at p
-- ends them or is passed too. Behind the last whole window `get_unary_in_bytes` counts on.
-- Assumes nothing.
use Prim.Native.Nat.{◌-◌, ◌*◌}
use lib.ListN.{length}
use Rattle.bits.specs.Bits.{bits_of}
use Rattle.bits.proofs.OnesLaws.{Passed}
use Rattle.unary_reading.proofs.get_unary.Given as goal

abbrev pub invariant-loop-p : goal.invariant-loop-p
invariant-loop-p l = Passed (bits_of l.s) l.at l.p

abbrev pub decreases-loop-p : goal.decreases-loop-p
decreases-loop-p l = 8 * length l.s - l.p
