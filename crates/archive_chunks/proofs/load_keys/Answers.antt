-- `archive_chunks::load_keys` meets its contract: where the file does not end there is a recording more.
-- Assumes nothing.
use Prim.Native.Nat.{◌+◌}
use native.Mathlib.Omega.{arith}
use Rattle.archive.proofs.PlaceLaws.{at-inside, recordings-few}
use Rattle.archive_chunks.proofs.StepLaws.{step_small, step_key, step-next}
use Rattle.archive_chunks.proofs.LoadLaws.{loading_more}
use Rattle.archive_chunks.proofs.load_keys.Goals as goal

-- its place in the file is a number of 64 bits
pub overflow_add-first : goal.overflow_add-first
overflow_add-first c =
    let file = c.args.file.bytes.now in
    let l = c.loop-count in
    let more = at-inside file l.next (c.args.first + l.count) l.invariant.place c.if-next-file.false in
    omega (arith, more, recordings-few file c.args.file.sound)

pub head_at-head-requires-clause-one : goal.head_at-head-requires-clause-one
head_at-head-requires-clause-one c = at-inside _ _ _ c.loop-count.invariant.place c.if-next-file.false

pub key_of-requires : goal.key_of-requires
key_of-requires c =
    let a = c.loop-count.invariant.place in
    step_small c.args.file.sound a (at-inside _ _ _ a c.if-next-file.false) c.head_at-head.ensures

pub loop-count-preserved : goal.loop-count-preserved
loop-count-preserved c =
    let a = c.loop-count.invariant.place in
    let sound = c.args.file.sound in
    let one = at-inside _ _ _ a c.if-next-file.false in
    let h = c.head_at-head.ensures in
    loading_more c.loop-count.invariant _ _ (omega arith) (step_key sound a one h _ c.key_of.ensures)
    (step-next sound a one h _ c.bytes_taken-next.ensures)
