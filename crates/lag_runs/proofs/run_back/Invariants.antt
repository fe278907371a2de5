-- `run_back` meets its contract. At each turn `Looked` holds; the measure is what is left of
-- the buffer. Assumes nothing.
use Prim.Native.Nat.{◌-◌}
use lib.ListN.{length}
use Rattle.lag_runs.proofs.LookLaws.{Looked}
use Rattle.lag_runs.proofs.run_back.Given as goal

abbrev pub invariant-loop-buffer : goal.invariant-loop-buffer
invariant-loop-buffer l = Looked l.lag l.start l.initial.buffer l.weight_a l.weight_b l.buffer l.i

abbrev pub decreases-loop-buffer : goal.decreases-loop-buffer
decreases-loop-buffer l = length l.buffer - l.i
