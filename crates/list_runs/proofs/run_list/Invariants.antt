use Rattle.list_runs.proofs.Turns.{Ran}
use Rattle.list_runs.proofs.run_list.Given as goal

abbrev pub invariant-loop-i : goal.invariant-loop-i
invariant-loop-i l = Ran l.direction l.fn.passes l.fn.buffer l.i l.passes l.buffer
