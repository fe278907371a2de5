-- `one_word::decode_sample_stateful_stereo` meets its contract: each way out is a law of
-- the entry.
-- Assumes nothing.
use borrow.Author.Rules.{rules}
use native.Mathlib.Omega.{arith}
use mathlib.Core.Path.{◌≡◌, sym, ap, ◌∙◌}
use mathlib.Core.Bool.{Bool, false, ◌||◌}
use mathlib.Core.List.{List}
use Prim.Native.Nat.{ℕ, ◌≤◌}
use borrow.Author.Tests.{ltb-false}
use lib.Dec.{ltb}
use lib.IntN.{pos}
use lib.ListN.{length}
use mir.Facts.{to_z-of_z}
use mir.Syntax.{w32}
use mir.Val.{SFits}
use Rattle.std.specs.Prelude.{Ok}
use Rattle.answers.specs.Limits.{max_payload_bytes}
use Rattle.answers.proofs.TestLaws.{neither}
use Rattle.bits.specs.Bits.{bits_of}
use Rattle.word_state.specs.State.{BitsRead, State, with_bits, plus_bits, exceeds}
use Rattle.word_state.specs.View.{state_of}
use Rattle.words.specs.Word.{given, word}
use Rattle.zones.specs.Report.{none, zone_of}
use Rattle.words.specs.Parts.{coded_word}
use Rattle.one_word.specs.View.{tell_word, bits_taken, one_word}
use Rattle.words.specs.declared.coded.Coded.{Coded}
use Rattle.word_state.proofs.StateLaws.{length_mapped}
use Rattle.one_word.proofs.OneLaws.{one-large, one_state, one_word_lem, one-paid, word_read, charged-before}
use Rattle.one_word.proofs.PlaceLaws.{coded-on, coded-fits}
use Rattle.one_word.proofs.decode_sample_stateful_stereo.Goals as goal

pub returns-then-payload-gt-MAX_PAYLOAD_BYTES : goal.returns-then-payload-gt-MAX_PAYLOAD_BYTES
returns-then-payload-gt-MAX_PAYLOAD_BYTES c =
    c.refused.ensures ∙ one-large c.args.payload.now c.args.place (state_of c.args.state) (omega arith)

pub returns-then-state-bits_exceed : goal.returns-then-state-bits_exceed
returns-then-state-bits_exceed c =
    let test = rw c.bits_exceed.ensures.exceeds at c.if-state-bits_exceed.true in
    c.refused-then-state-bits_exceed.ensures ∙ one_state c.args.payload.now c.args.place
    (state_of c.args.state) (omega arith) test

-- behind the test of the state the channel is one of two, and the totals do not exceed the place
record Passed (s : State) (p : ℕ) : Type 0 where
  channel : s.channel ≤ 1
  within : exceeds s.bits_read p ≡ false

passed : (s : State) (p : ℕ) {x : Bool} → x ≡ exceeds s.bits_read p → (ltb 1 s.channel || x) ≡ false
    → Passed s p
passed s p e f =
    let t = neither (ltb 1 s.channel) (exceeds s.bits_read p) (rw e at f) in
    record { channel = omega (arith, ltb-false 1 s.channel t.0); within = t.1 }

pub returns-then-debt-gt0 : goal.returns-then-debt-gt0
returns-then-debt-gt0 c =
    let s = state_of c.args.state in
    let x = passed s c.args.place c.bits_exceed.ensures.exceeds c.if-state-bits_exceed.false in
    c.zero.ensures
    ∙ ap (λ (t : State). tell_word c.args.place s (given (pos 0) c.args.place t none)) c.paid.ensures
    ∙ one-paid c.args.payload.now c.args.place s (omega arith) x.channel x.within (omega arith)

-- the word that was read is the word of the state
pub bits_taken-requires : goal.bits_taken-requires
bits_taken-requires c =
    let s = state_of c.args.state in
    let x = passed s c.args.place c.bits_exceed.ensures.exceeds c.if-state-bits_exceed.false in
    let two : length c.args.state.medians ≡ 2 = search (rules, length_mapped) in
    let r =
    word_read c.args.payload.now c.args.place c.args.state _ _ x.channel (omega arith) two
    c.zero_run_eligible-run.ensures c.read_word-read.ensures in
    coded-on c.args.payload.now c.args.place c.args.state c.in-Ok.word (rw c.in-Ok.is at r)

pub charged-totals-requires-clause-fits : goal.charged-totals-requires-clause-fits
charged-totals-requires-clause-fits c =
    let s = state_of c.args.state in
    let x = passed s c.args.place c.bits_exceed.ensures.exceeds c.if-state-bits_exceed.false in
    let two : length c.args.state.medians ≡ 2 = search (rules, length_mapped) in
    let r =
    word_read c.args.payload.now c.args.place c.args.state _ _ x.channel (omega arith) two
    c.zero_run_eligible-run.ensures c.read_word-read.ensures in
    let fits =
    coded-fits c.args.payload.now c.args.place c.args.state c.in-Ok.word (rw c.in-Ok.is at r)
    (omega arith) x.within c.bits_exceed.ensures.small (omega (arith, x.channel)) in
    rw c.bits_taken.ensures fits

-- what is told of a word that was read, with the totals after it, is the entry's answer
told : (payload : List ℕ) (p : ℕ) (s : State) (b : BitsRead) (n : ℕ) (r x : Coded) → r ≡ x
    → n ≡ bits_taken p r
    → b ≡ plus_bits s.channel n s.bits_read → length payload ≤ max_payload_bytes → Passed s p
    → coded_word s (Ok r) ≡ word (bits_of payload) p s → tell_word p s
    (coded_word (with_bits b s) (Ok x)) ≡ one_word payload p s
told payload p s b n r x f g h few t e =
    ap (λ (y : Coded). tell_word p s (coded_word (with_bits b s) (Ok y))) (sym f)
    ∙ ap (λ (a : BitsRead). tell_word p s (coded_word (with_bits a s) (Ok r)))
    (h ∙ ap (λ (m : ℕ). plus_bits s.channel m s.bits_read) g)
    ∙ ap (tell_word p s) (charged-before p s (Ok r))
    ∙ one_word_lem payload p s _ few t.channel t.within e

pub returns-in-Run : goal.returns-in-Run
returns-in-Run c =
    let s = state_of c.args.state in
    let x = passed s c.args.place c.bits_exceed.ensures.exceeds c.if-state-bits_exceed.false in
    let two : length c.args.state.medians ≡ 2 = search (rules, length_mapped) in
    let r =
    word_read c.args.payload.now c.args.place c.args.state _ _ x.channel (omega arith) two
    c.zero_run_eligible-run.ensures c.read_word-read.ensures in
    c.zero-in-Run.ensures
    ∙ ap (λ (t : State). tell_word c.args.place s (given (pos 0) c.in-Run.next t none)) c.in_run.ensures
    ∙ told c.args.payload.now c.args.place s _ _ c.in-Ok.word _ c.in-Run.is c.bits_taken.ensures
    c.charged-totals.ensures (omega arith) x (rw c.in-Ok.is at r)

pub returns-in-Sample : goal.returns-in-Sample
returns-in-Sample c =
    let s = state_of c.args.state in
    let x = passed s c.args.place c.bits_exceed.ensures.exceeds c.if-state-bits_exceed.false in
    let two : length c.args.state.medians ≡ 2 = search (rules, length_mapped) in
    let r =
    word_read c.args.payload.now c.args.place c.args.state _ _ x.channel (omega arith) two
    c.zero_run_eligible-run.ensures c.read_word-read.ensures in
    let w = c.in-Sample in
    let f : SFits w32 c.in-Sample.value = search rules in
    rw (to_z-of_z f) at c.given.ensures
    ∙ ap (λ (t : State). tell_word c.args.place s (given w.value w.next t (zone_of w.ones_count)))
    c.adapted.ensures
    ∙ told c.args.payload.now c.args.place s _ _ c.in-Ok.word _ w.is c.bits_taken.ensures c.charged-totals.ensures
    (omega arith) x (rw c.in-Ok.is at r)

pub returns-in-Err : goal.returns-in-Err
returns-in-Err c =
    let s = state_of c.args.state in
    let x = passed s c.args.place c.bits_exceed.ensures.exceeds c.if-state-bits_exceed.false in
    let two : length c.args.state.medians ≡ 2 = search (rules, length_mapped) in
    let r =
    word_read c.args.payload.now c.args.place c.args.state _ _ x.channel (omega arith) two
    c.zero_run_eligible-run.ensures c.read_word-read.ensures in
    c.refused-in-Err.ensures
    ∙ one_word_lem c.args.payload.now c.args.place s _ (omega arith) x.channel x.within (rw c.in-Err.is at r)
