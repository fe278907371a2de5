-- `run_cross` meets its contract. At each turn `Done` holds. Assumes nothing.
use Prim.Native.Nat.{◌*◌}
use Rattle.passes.specs.Run.{turn}
use Rattle.pass_turns.proofs.FrameLaws.{Done}
use Rattle.cross_runs.specs.Cross.{cross_term, cross_at}
use Rattle.cross_runs.proofs.run_cross.Given as goal

abbrev pub invariant-loop-k : goal.invariant-loop-k
invariant-loop-k l = Done (turn l.direction (cross_term l.second)) l.start l.initial.buffer
    (cross_at l.second l.start l.weight l.other l.last) l.buffer l.k (2 * l.k)
