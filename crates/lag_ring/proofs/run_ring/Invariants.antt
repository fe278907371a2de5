-- `run_ring` meets its contract. At each turn `Done` holds; the measure is what is left of
-- the buffer. Assumes nothing.
use Prim.Native.Nat.{◌-◌}
use lib.ListN.{length}
use Rattle.passes.specs.Run.{turn}
use Rattle.passes.specs.declared.Term.TheVariants.{Lag}
use Rattle.pass_turns.specs.Turns.{lag_at}
use Rattle.pass_turns.proofs.FrameLaws.{Done}
use Rattle.lag_ring.proofs.run_ring.Given as goal

abbrev pub invariant-loop-buffer : goal.invariant-loop-buffer
invariant-loop-buffer l = Done (turn l.direction (Lag l.lag)) l.start l.initial.buffer
    (lag_at l.start l.weight_a l.weight_b l.history_a l.history_b) l.buffer l.index l.i

abbrev pub decreases-loop-buffer : goal.decreases-loop-buffer
decreases-loop-buffer l = length l.buffer - l.i
