-- `zero_runs::zeros_from` meets its contract: so far all were zeros, and the stretch goes on
-- as it does from i.
-- Assumes nothing.
use mathlib.Core.Path.{◌≡◌}
use Prim.Native.Nat.{◌+◌, ◌-◌, ◌≤◌}
use lib.ListN.{drop}
use Rattle.word_bits.specs.Residuals.{zeros}
use Rattle.zero_runs.proofs.zeros_from.Given as goal

abbrev pub invariant-loop-i : goal.invariant-loop-i
invariant-loop-i l = (l.first ≤ l.i)
    × (zeros (drop l.first l.residuals) ≡ l.i - l.first + zeros (drop l.i l.residuals))
