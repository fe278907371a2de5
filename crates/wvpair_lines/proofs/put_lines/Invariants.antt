-- The loop's invariant: the lines of the samples passed are laid.
-- Assumes nothing.
use Prim.Native.Nat.{◌*◌}
use Rattle.wvpair_lines.proofs.LineLaws.{Printed}
use Rattle.wvpair_lines.proofs.put_lines.Given as goal

abbrev pub invariant-loop-i : goal.invariant-loop-i
invariant-loop-i l = Printed l.initial.out l.out l.at l.place l.samples (2 * l.i)
