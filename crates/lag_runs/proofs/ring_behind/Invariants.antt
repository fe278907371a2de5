-- `ring_behind` meets its contract: after k frames the rings hold the samples of those of the
-- last eight that are passed. Assumes nothing.
use Prim.Native.Nat.{◌-◌}
use Rattle.lag_runs.specs.Lookback.{Ring}
use Rattle.lag_runs.proofs.ring_behind.Given as goal

abbrev pub invariant-loop-k : goal.invariant-loop-k
invariant-loop-k l = Ring l.lag l.history_a l.buffer 0 (l.frames - 8) l.k × Ring l.lag l.history_b l.buffer 1 (l.frames - 8) l.k
