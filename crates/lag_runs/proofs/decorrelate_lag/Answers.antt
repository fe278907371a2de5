-- `decorrelate_lag` meets its contract, by `looked_whole` where it looks back in the buffer.
-- Assumes nothing.
use native.Mathlib.Omega.{arith}
use Rattle.lag_runs.proofs.LookLaws.{looked_whole}
use Rattle.lag_runs.proofs.decorrelate_lag.Goals as goal

pub returns : goal.returns
returns c =
    looked_whole c.args.lag c.args.start c.args.buffer.now _ _ _
    c.run_back-weights.ensures c.ring_behind.ensures (omega (arith, c.run_back-weights.ensures.same))
