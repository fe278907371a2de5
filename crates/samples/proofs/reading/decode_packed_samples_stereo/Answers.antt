-- `samples::reading::decode_packed_samples_stereo` meets its contract. The loop's invariant is
-- `PartsLoop`; a turn is a run or a sample. What a call ensures is of the turn that it was given, whose
-- proof that left's bits are a part of all is another, so its record is made anew.
-- Assumes nothing.
use borrow.Author.Rules.{rules}
use native.Mathlib.Omega.{arith}
use mathlib.Core.Path.{◌≡◌, ap}
use lib.ListN.{length}
use mir.Facts.{to_z-of_z}
use mir.Syntax.{w32}
use mir.Val.{SFits}
use Rattle.word_state.proofs.StateLaws.{length_mapped}
use Rattle.words.specs.Parts.{coded_word}
use Rattle.samples.proofs.LoopLaws.{loop_end, loop_on, loop_run, loop_sample, loop_stop}
use Rattle.samples.proofs.PartsLaws.{first, loop_start}
use Rattle.samples.proofs.reading.decode_packed_samples_stereo.Goals as goal

pub loop-at-init : goal.loop-at-init
loop-at-init c =
    let l : length c.args.seeds ≡ 2 = search (rules, length_mapped) in
    record {
      part = (first c.args.seeds).part;
      loop = loop_start c.args.payload.now c.args.out.now c.args.seeds l;
    }

pub after_run-at-requires-clause-on : goal.after_run-at-requires-clause-on
after_run-at-requires-clause-on c =
    let l = c.loop-at.invariant.loop in
    loop_on _ _ _ _ _ l _ c.loop-at-test.true (record { is = c.word_at.ensures.is }) _ _ _ _
    (ap (coded_word l.words.state) (rw c.in-Ok-Run.field-0-is at c.in-Ok-Run.is))

pub after_sample-at-requires-clause-on : goal.after_sample-at-requires-clause-on
after_sample-at-requires-clause-on c =
    let l = c.loop-at.invariant.loop in
    loop_on _ _ _ _ _ l _ c.loop-at-test.true (record { is = c.word_at.ensures.is }) _ _ _ _
    (ap (coded_word l.words.state) (rw c.in-Ok-Sample.field-0-is at c.in-Ok-Sample.is))

pub loop-at-preserved-in-Ok-Run : goal.loop-at-preserved-in-Ok-Run
loop-at-preserved-in-Ok-Run c =
    let a = c.after_run-at.ensures in
    record {
      part = c.after_run-at.result.part;
      loop = loop_run _ _ _ _ _ c.loop-at.invariant.loop _ c.loop-at-test.true (record { is = c.word_at.ensures.is })
          _ _ _ _ (rw c.in-Ok-Run.field-0-is at c.in-Ok-Run.is)
          (record { zeros = a.zeros; part = a.part; turn_is = a.turn_is });
    }

pub loop-at-preserved : goal.loop-at-preserved
loop-at-preserved c =
    let v = c.in-Ok-Sample.value in
    let f : SFits w32 v = search rules in
    let a = rw (to_z-of_z f) at c.after_sample-at.ensures in
    record {
      part = c.after_sample-at.result.part;
      loop = loop_sample _ _ _ _ _ c.loop-at.invariant.loop _ c.loop-at-test.true (record { is = c.word_at.ensures.is })
          v _ _ _ _ _ _ (rw c.in-Ok-Sample.field-0-is at c.in-Ok-Sample.is)
          (record { due = a.due; adapted = a.adapted; part = a.part; to = a.to; onward = a.onward; turn_is = a.turn_is });
    }

pub returns-in-Err : goal.returns-in-Err
returns-in-Err c =
    rw c.answer.ensures
    (loop_stop _ _ _ _ _ c.loop-at.invariant.loop _ c.loop-at-test.true (record { is = c.word_at.ensures.is }) _ c.in-Err.is)

pub returns : goal.returns
returns c =
    rw c.answer-2.ensures (loop_end _ _ _ _ _ c.loop-at.invariant.loop (omega arith))
