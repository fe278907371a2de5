-- `archive_reader::deliver` meets its contract.
-- Assumes nothing.
use native.Mathlib.Omega.{arith}
use Rattle.archive.proofs.PlaceLaws.{recordings-few}
use Rattle.archive_reader.proofs.ReaderLaws.{done_none, laid_none, list_on, out-on, all_laid}
use Rattle.archive_reader.proofs.deliver.Goals as goal

pub loop-done-init : goal.loop-done-init
loop-done-init c =
    let n = laid_none c.args.file.bytes.now c.args.list.now c.args.out.now in
    (done_none _ c.args.file.sound, n.0, n.1)

pub overflow_add-first : goal.overflow_add-first
overflow_add-first c =
    omega (arith, recordings-few _ c.args.file.sound, c.chunk_at-chunk.ensures.place.within)

pub loop-done-preserved : goal.loop-done-preserved
loop-done-preserved c =
    let l = c.loop-done.invariant in
    let e = c.lay_chunk-done.ensures in (
      e.done,
      list_on _ _ _ l.0 _ _ _ c.requires.list l.1 e.list,
      out-on _ _ _ l.0 _ _ _ c.requires.out l.2 e.out,
    )

pub returns-clause-list : goal.returns-clause-list
returns-clause-list c =
    let l = c.loop-done.invariant in
    (all_laid c.args.file.bytes.now l.0 c.loop-done-test.false l.1 l.2).0

pub returns-clause-out : goal.returns-clause-out
returns-clause-out c =
    let l = c.loop-done.invariant in
    (all_laid c.args.file.bytes.now l.0 c.loop-done-test.false l.1 l.2).1
