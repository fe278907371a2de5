-- `archive_payloads::lay_chunk` meets its contract.
-- Assumes nothing.
use native.Mathlib.Nat.{add-zero}
use native.Mathlib.Omega.{arith}
use Rattle.archive.proofs.PlaceLaws.{recordings-few}
use Rattle.archive_payloads.proofs.KeptLaws.{done_on}
use Rattle.archive_payloads.proofs.LaidLaws.{list-none, out_none, list-more, out-more}
use Rattle.archive_payloads.proofs.lay_chunk.Goals as goal

pub loop-m-init : goal.loop-m-init
loop-m-init c =
    let file = c.args.file.bytes.now in
    let first = c.args.first in (
      rw (add-zero first) c.requires.done,
      list-none file first _ _,
      out_none file first _ _,
    )

pub overflow_add-first : goal.overflow_add-first
overflow_add-first c =
    omega (arith, recordings-few c.args.file.bytes.now c.args.file.sound, c.requires.chunk.within)

pub loop-m-preserved : goal.loop-m-preserved
loop-m-preserved c =
    let l = c.loop-m in
    let r = c.requires in
    let e = c.lay_one-now.ensures in (
      done_on _ _ l.m e.done,
      list-more _ _ l.m r.done l.invariant.0 _ _ _ r.list l.invariant.1 e.list,
      out-more _ _ l.m r.done l.invariant.0 _ _ _ r.out l.invariant.2 e.out,
    )
