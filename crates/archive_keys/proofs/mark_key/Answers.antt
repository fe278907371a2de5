-- `archive_keys::mark_key` meets its contract. The key's bucket has a head.
-- Assumes nothing.
use mathlib.Core.Path.{ap}
use mathlib.Core.Bool.{Bool, false, ◌||◌}
use Prim.Native.Nat.{◌-◌}
use native.Mathlib.Omega.{arith}
use lib.ListN.{get_or}
use Rattle.archive_keys.proofs.KeyLaws.{bucket-below}
use Rattle.archive_keys.proofs.MarkLaws.{passed_none, passed-more}
use Rattle.archive_keys.proofs.mark_key.Goals as goal

pub offset_bounds-heads-bucket : goal.offset_bounds-heads-bucket
offset_bounds-heads-bucket c = omega (arith, bucket-below)

pub bounds-heads-bucket : goal.bounds-heads-bucket
bounds-heads-bucket c = omega (arith, bucket-below)

pub loop-j-init : goal.loop-j-init
loop-j-init c = rw c.bucket.ensures (passed_none c.requires.chained)

pub loop-j-preserved : goal.loop-j-preserved
loop-j-preserved c =
    let l = c.loop-j in
    let old = get_or l.marks (l.j - 1) false in
    let m = ap (λ (b : Bool). old || b) c.supersedes.ensures in
    let t = ap (λ (b : Bool). l.twice || b) c.repeats-twice.ensures in
    passed-more c.requires.chained l.invariant (omega arith) (l.j - 1) (omega arith) _ _ m t
