-- `archive_keys::chain` meets its contract. The key's bucket has a head.
-- Assumes nothing.
use native.Mathlib.Omega.{arith}
use Rattle.archive_keys.proofs.KeyLaws.{bucket-below}
use Rattle.archive_keys.proofs.ChainLaws.{chained_more}
use Rattle.archive_keys.proofs.chain.Goals as goal

pub offset_bounds-heads-b : goal.offset_bounds-heads-b
offset_bounds-heads-b c = omega (arith, bucket-below)

pub bounds-heads-b : goal.bounds-heads-b
bounds-heads-b c = omega (arith, bucket-below)

pub offset_bounds-heads-b-in-loop-i : goal.offset_bounds-heads-b-in-loop-i
offset_bounds-heads-b-in-loop-i c = omega (arith, bucket-below)

pub bounds-heads-b-in-loop-i : goal.bounds-heads-b-in-loop-i
bounds-heads-b-in-loop-i c = omega (arith, bucket-below)

pub loop-i-preserved : goal.loop-i-preserved
loop-i-preserved c =
    chained_more _ _ _ c.loop-i.i _ c.loop-i.invariant (omega arith) c.bucket-b.ensures
