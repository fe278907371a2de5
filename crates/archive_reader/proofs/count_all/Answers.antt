-- `archive_reader::count_all` meets its contract.
-- Assumes nothing.
use mathlib.Core.Path.{refl, sym, ◌∙◌}
use native.Mathlib.Omega.{arith}
use Rattle.archive.proofs.PlaceLaws.{recordings-few}
use Rattle.archive_reader.proofs.ReaderLaws.{apart_none, apart_more, done_none, counts_all}
use Rattle.archive_reader.proofs.count_all.Goals as goal

pub loop-done-init : goal.loop-done-init
loop-done-init c = (done_none _ c.args.file.sound, apart_none _)

pub overflow_add-first : goal.overflow_add-first
overflow_add-first c =
    omega (arith, recordings-few _ c.args.file.sound, c.chunk_at-chunk.ensures.place.within)

pub loop-done-preserved : goal.loop-done-preserved
loop-done-preserved c = (
  c.count_chunk-done.ensures,
  apart_more _ c.chunk_at-chunk.ensures _ _ c.loop-done.invariant.1 refl,
)

pub returns-then-twice : goal.returns-then-twice
returns-then-twice c =
    let i = c.loop-done.invariant in
    let a = counts_all _ c.args.file.sound i.0 i.1 c.loop-done-test.false in
    (sym a.0 ∙ c.if-twice.true, refl)

pub returns : goal.returns
returns c =
    let i = c.loop-done.invariant in
    let a = counts_all _ c.args.file.sound i.0 i.1 c.loop-done-test.false in
    (sym a.0 ∙ c.if-twice.false, a.1)
