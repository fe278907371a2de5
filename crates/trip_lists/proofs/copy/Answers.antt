-- `trip_lists::copy` meets its contract.
-- Assumes nothing.
use native.Mathlib.Omega.{arith}
use Rattle.trip_lists.proofs.ListLaws.{copied-end}
use Rattle.trip_lists.proofs.copy.Goals as goal

pub returns : goal.returns
returns c = copied-end _ _ _ c.loop-i.i (omega arith) c.requires c.loop-i.invariant
