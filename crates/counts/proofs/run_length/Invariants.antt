-- The cases of a length number at most 4 * 161 * 170.
use Rattle.std.proofs.Common.{◌≤◌, ◌<◌}
use Rattle.counts.proofs.run_length.Given as goal

abbrev pub invariant-loop-i : goal.invariant-loop-i
invariant-loop-i g l = (l.agreed ≤ l.i) × (l.made ≤ 109480) × (0 < l.places) × (l.places ≤ 161)
