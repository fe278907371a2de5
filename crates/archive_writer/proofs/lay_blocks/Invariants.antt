-- `archive_writer::lay_blocks`: the loop's invariant is that the first i blocks are laid.
-- Assumes nothing.
use mathlib.Core.List.{◌++◌}
use Rattle.archive_writer.proofs.BlocksLaws.{Laid}
use Rattle.archive_writer.proofs.lay_blocks.Given as goal

abbrev pub invariant-loop-i : goal.invariant-loop-i
invariant-loop-i l = Laid (l.front ++ l.payload) l.initial.out l.out l.i
