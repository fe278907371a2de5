-- `run_swap` meets its contract. At each turn `Done` holds; the measure is what is left of the buffer.
-- Assumes nothing.
use Prim.Native.Nat.{◌-◌, ◌/◌}
use lib.ListN.{length}
use Rattle.passes.specs.Run.{turn}
use Rattle.passes.specs.declared.Term.TheVariants.{MinusThree}
use Rattle.pass_turns.proofs.FrameLaws.{Done}
use Rattle.cross_runs.specs.Cross.{swap_at}
use Rattle.cross_runs.proofs.run_swap.Given as goal

abbrev pub invariant-loop-buffer : goal.invariant-loop-buffer
invariant-loop-buffer l = Done (turn l.direction MinusThree) l.start l.initial.buffer
    (swap_at l.start l.weight_a l.weight_b l.last_a l.last_b) l.buffer (l.i / 2) l.i

abbrev pub decreases-loop-buffer : goal.decreases-loop-buffer
decreases-loop-buffer l = length l.buffer - l.i
