-- `run_two` meets its contract. At each turn `Done` holds; the measure is what is left of the buffer.
-- Assumes nothing.
use Prim.Native.Nat.{◌-◌, ◌/◌}
use lib.ListN.{length}
use Rattle.std.specs.Prelude.{not, eqb}
use Rattle.passes.specs.Run.{turn}
use Rattle.pass_turns.proofs.FrameLaws.{Done}
use Rattle.two_runs.specs.Two.{two_term, two_at}
use Rattle.two_runs.proofs.run_two.Given as goal

abbrev pub invariant-loop-buffer : goal.invariant-loop-buffer
invariant-loop-buffer g l =
    let eighteen = not (eqb g.row.EIGHTEEN 0) in
    Done (turn l.direction (two_term eighteen)) l.start l.initial.buffer
    (two_at l.start l.weight_a l.weight_b l.a0 l.a1 l.b0 l.b1) l.buffer
    (l.i / 2) l.i

abbrev pub decreases-loop-buffer : goal.decreases-loop-buffer
decreases-loop-buffer g l = length l.buffer - l.i
