-- `trip_lists::copy` meets its contract.
-- Assumes nothing.
use Rattle.trip_lists.proofs.ListLaws.{Copied}
use Rattle.trip_lists.proofs.copy.Given as goal

abbrev pub invariant-loop-i : goal.invariant-loop-i
invariant-loop-i l = Copied l.from l.initial.to l.to l.i
