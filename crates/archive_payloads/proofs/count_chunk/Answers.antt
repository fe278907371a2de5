-- `archive_payloads::count_chunk` meets its contract: the recording that comes next is there.
-- Assumes nothing.
use native.Mathlib.Omega.{arith}
use Rattle.archive.proofs.PlaceLaws.{recordings-few}
use Rattle.archive_payloads.proofs.KeptLaws.{done_more, done-told, done_on}
use Rattle.archive_payloads.proofs.count_chunk.Goals as goal

pub overflow_add-first : goal.overflow_add-first
overflow_add-first c =
    omega (arith, recordings-few c.args.file.bytes.now c.args.file.sound, c.requires.chunk.within)

pub loop-m-preserved : goal.loop-m-preserved
loop-m-preserved c =
    let l = c.loop-m in
    let chunk = c.requires.chunk in
    done_on _ _ l.m (done-told _ _
    (done_more _ _ (omega (arith, chunk.within)) _ (chunk.marks l.m (omega arith)) l.invariant
    c.head_at-head.ensures.payload)
    c.counted-now.ensures)
