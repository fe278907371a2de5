-- `word_calls::word_call` meets its contract: too few slots, or what the word told, whose
-- place fits 32 bits.
-- Assumes nothing.
use borrow.Author.Tests.{lt-ltb, le-ltb}
use mathlib.Core.Path.{◌∙◌}
use native.Mathlib.Omega.{arith}
use borrow.Author.Rules.{rules}
use lib.ListN.{length}
use Rattle.word_state.specs.View.{state_of}
use Rattle.one_word.proofs.PlaceLaws.{place-fits}
use Rattle.word_calls.proofs.CallLaws.{word-short, word-told}
use Rattle.word_calls.proofs.word_call.Goals.{
  then-state-lt15-via-then-state-lt15,
  then-state-lt15-via-else-state-lt15+then-sample-lt1,
  then-state-lt15-via-else-state-lt15+else-sample-lt1+then-report-lt2,
}
use Rattle.word_calls.proofs.word_call.Goals as goal

pub returns-then-state-lt15 : goal.returns-then-state-lt15
returns-then-state-lt15 c =
    let n = length c.args.state.now in
    let m = length c.args.sample.now in
    word-short c.args.payload.now c.args.state.now c.args.sample.now c.args.report.now
    (elim c.then-state-lt15.branch [
      | then-state-lt15-via-then-state-lt15 w ↦ rw (lt-ltb n 15 w.if-state-lt15.true)
      | then-state-lt15-via-else-state-lt15+then-sample-lt1 w ↦
          rw (le-ltb n 15 w.if-state-lt15.false, lt-ltb m 1 w.if-sample-lt1.true)
      | then-state-lt15-via-else-state-lt15+else-sample-lt1+then-report-lt2 w ↦
          rw (
            le-ltb n 15 w.if-state-lt15.false,
            le-ltb m 1 w.if-sample-lt1.false,
            lt-ltb (length c.args.report.now) 2 w.if-report-lt2.true,
          )
    ])

pub returns : goal.returns
returns c =
    c.lay_word.ensures
    ∙ word-told c.args.payload.now c.args.state.now c.args.sample.now c.args.report.now
    c.decode_sample_stateful_stereo-word.result (state_of c.state_in.result)
    (c.if-state-lt15.false, c.if-sample-lt1.false, c.if-report-lt2.false) c.state_in.ensures
    c.decode_sample_stateful_stereo-word.ensures

pub lay_word-requires-clause-place : goal.lay_word-requires-clause-place
lay_word-requires-clause-place c =
    let word = c.decode_sample_stateful_stereo-word in
    omega (arith, place-fits c.args.payload.now _ _ word.result word.ensures (search rules))
