-- `zero_runs::skip` meets its contract.
-- Assumes nothing.
use Prim.Native.Nat.{◌-◌}
use lib.ListN.{length}
use Rattle.word_bits.specs.View.{SkipIs}
use Rattle.zero_runs.proofs.skip.Given as goal

abbrev pub invariant-loop-i : goal.invariant-loop-i
invariant-loop-i l = SkipIs l.residuals l.first l.i

abbrev pub decreases-loop-i : goal.decreases-loop-i
decreases-loop-i l = length l.residuals - l.i
