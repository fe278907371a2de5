-- `archive_chunks::mark_all` meets its contract: where the file does not end there is a recording more.
-- Assumes nothing.
use mathlib.Core.Path.{refl}
use native.Mathlib.Omega.{arith}
use Rattle.archive.proofs.PlaceLaws.{at-start, at-inside, recordings-few}
use Rattle.archive_chunks.proofs.StepLaws.{step_small, step_key, step-next}
use Rattle.archive_chunks.proofs.WalkLaws.{walked_none, walked_more, walked-marks, walked_met}
use Rattle.archive_chunks.proofs.mark_all.Goals as goal

pub loop-at-init : goal.loop-at-init
loop-at-init c = walked_none (at-start c.args.file.bytes.now c.args.file.sound) c.requires.unmarked

pub head_at-head-requires-clause-one : goal.head_at-head-requires-clause-one
head_at-head-requires-clause-one c = at-inside _ _ _ c.loop-at.invariant.place c.loop-at-test.true

pub key_of-key-requires : goal.key_of-key-requires
key_of-key-requires c =
    let a = c.loop-at.invariant.place in
    step_small c.args.file.sound a (at-inside _ _ _ a c.loop-at-test.true) c.head_at-head.ensures

-- the recordings are fewer than the bytes
pub overflow_add-index : goal.overflow_add-index
overflow_add-index c =
    let file = c.args.file.bytes.now in
    let l = c.loop-at in
    let more = at-inside file l.at l.index l.invariant.place c.loop-at-test.true in
    omega (arith, more, recordings-few file c.args.file.sound)

pub loop-at-preserved : goal.loop-at-preserved
loop-at-preserved c =
    let w = c.loop-at.invariant in
    let sound = c.args.file.sound in
    let one = at-inside _ _ _ w.place c.loop-at-test.true in
    let h = c.head_at-head.ensures in
    walked_more w one (step_key sound w.place one h _ c.key_of-key.ensures) c.mark_key-twice.ensures.marks
    c.mark_key-twice.ensures.met refl
    (step-next sound w.place one h _ c.bytes_taken-at.ensures)

pub returns-clause-marks : goal.returns-clause-marks
returns-clause-marks c = walked-marks c.loop-at.invariant c.loop-at-test.false

pub returns-clause-met : goal.returns-clause-met
returns-clause-met c = walked_met c.loop-at.invariant c.loop-at-test.false
