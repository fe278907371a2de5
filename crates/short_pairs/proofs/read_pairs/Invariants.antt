-- `short_pairs::read_pairs` meets its contract. The loop's invariant is `Pairs`; each way out is a
-- step that was made.
-- Assumes nothing.
use Prim.Native.Nat.{◌-◌}
use lib.ListN.{length}
use Rattle.short_pairs.proofs.PairLaws.{Pairs}
use Rattle.short_pairs.proofs.read_pairs.Given as goal

abbrev pub invariant-loop-at : goal.invariant-loop-at
invariant-loop-at l = Pairs l.payload l.initial.out l.out l.initial.at l.at l.w

abbrev pub decreases-loop-at : goal.decreases-loop-at
decreases-loop-at l = length l.initial.out - l.at.written
