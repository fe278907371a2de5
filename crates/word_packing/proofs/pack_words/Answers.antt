-- `word_packing::pack_words` meets its contract: what is written and what is left, from the
-- state that the locals hold, is the whole.
-- Assumes nothing.
use mathlib.Core.Path.{◌≡◌, refl}
use Prim.Native.Nat.{ℕ, suc, ◌+◌, ◌-◌, ◌*◌, ◌/◌, ◌%◌, ◌≤◌, ◌<◌}
use native.Mathlib.Omega.{arith}
use borrow.Author.Rules.{rules}
use borrow.Author.Tests.{lt-ltb, le-ltb}
use borrow.Rule.Slice.PartMut.{put_mid, same_len_mid}
use mathlib.Core.Bool.{Bool, true}
use mathlib.Core.List.{List}
use lib.IntN.{ℤ, pos}
use lib.ListN.{length, take, drop, get_or, length-map}
use Rattle.answers.specs.Limits.{max_elements, max_word_bits, residual_span}
use Rattle.entropy.specs.Medians.{medians_of}
use Rattle.entropy.specs.declared.AdaptiveMedians.{AdaptiveMedians}
use Rattle.word_bits.specs.Residuals.{spanned}
use Rattle.word_state.proofs.StateLaws.{no_set}
use Rattle.word_state.specs.State.{State}
use Rattle.bits.specs.Laid.{put}
use Rattle.bits.proofs.WriteLaws.{put-lent}
use Rattle.packing.specs.Packing.{word_out}
use Rattle.packing.specs.View.{Turned, TurnIs}
use Rattle.packing.specs.declared.Turn.{Turn}
use Rattle.packing.proofs.LoopLaws.{Loop, loop_start, loop_due-small, loop_other-small, loop_seen}
use Rattle.packing.proofs.LoopLaws.{word_room, run_room, loop_word, loop_run, loop_end}
use Rattle.spans.proofs.SpanLaws.{within-at}
use Rattle.word_packing.proofs.pack_words.Goals as goal

-- what the invariant says in numbers
record Facts (len size place i : ℕ) : Type 0 where
  room : place + max_word_bits ≤ 8 * size
  here : i < len
  most : len ≤ max_elements

facts : {before : List ℕ} {vs : List ℤ} {s₀ : State} {out : List ℕ} {sets : List AdaptiveMedians}
    {place : ℕ} {lz lo brk : Bool} {i : ℕ}
    → Loop before vs s₀ out sets place lz lo brk i → (length vs ≤ max_elements) ×
    (14 * length vs ≤ length before) → i < length vs
    → Facts (length vs) (length out) place i
facts l p h = record { room = omega (arith, l.room, l.here, l.same); here = h; most = p.0 }

-- what a turn wrote into the lent rest, by the whole buffer
record Lent (vs : List ℤ) (s : State) (out last : List ℕ) (place i : ℕ) (r : Turn) : Type 0 where
  turned : Turned (take (length out - place / 8) (drop (place / 8) out)) last (place % 8) s
      (get_or vs i (pos 0)) (drop (suc i) vs) r
  bytes : put_mid (place / 8) (length out - place / 8) out last ≡ put out place
      (word_out s (get_or vs i (pos 0)) (drop (suc i) vs)).bits
  place_is : 8 * (place / 8) + r.place ≡ place + length
      (word_out s (get_or vs i (pos 0)) (drop (suc i) vs)).bits
  few : length (word_out s (get_or vs i (pos 0)) (drop (suc i) vs)).bits ≤ max_word_bits
  size : length (put_mid (place / 8) (length out - place / 8) out last) ≡ length out
  most : 0 < r.run → i + r.run ≤ length vs

lent : {before : List ℕ} {vs : List ℤ} {s₀ : State} {out : List ℕ} {sets : List AdaptiveMedians} {place : ℕ}
    {lz lo brk : Bool} {i : ℕ} {last : List ℕ} {r : Turn}
    → (l : Loop before vs s₀ out sets place lz lo brk i) → Facts (length vs) (length out) place i
    → spanned vs ≡ true
    → length last ≡ length (take (length out - place / 8) (drop (place / 8) out))
    → TurnIs (take (length out - place / 8) (drop (place / 8) out)) last (place % 8)
    (medians_of (get_or sets (i % 2) no_set)) (medians_of (get_or sets (1 - i % 2) no_set))
    lz lo brk (get_or vs i (pos 0)) (drop (suc i) vs) r
    → Lent vs l.state out last place i r
lent {out = out} {place = place} {i = i} {last = last} l f spans k w =
    let t = w.turned l.state (loop_seen _ _ _ _ _ _ _ _ _ i l) in
    record {
      turned = t;
      bytes = put-lent out last place (place % 8) _ l.low-bytes (omega (arith, f.room)) refl t.put_is.bytes k;
      place_is = omega (arith, t.put_is.place);
      few = word_room _ _ _ _ _ _ _ _ _ i l spans f.most f.here;
      size = same_len_mid (place / 8) (length out - place / 8) out last k;
      most = λ h. run_room _ _ _ _ _ _ _ _ _ i l _ _ _ f.here (t.run h);
    }

pub loop-i-init : goal.loop-i-init
loop-i-init c =
    loop_start c.args.out.now c.args.residuals.now c.args.seeds
    (λ i. omega (arith, c.slice_known-1.given i))
    (search (rules, length-map)) c.requires.span.1 c.requires.span.2

pub put_turn-turn-requires-clause-span : goal.put_turn-turn-requires-clause-span
put_turn-turn-requires-clause-span c =
    let l = c.loop-i.invariant in (
      loop_due-small _ _ _ _ _ _ _ _ _ _ l,
      loop_other-small _ _ _ _ _ _ _ _ _ _ l,
      within-at residual_span _
          c.loop-i.i c.requires.span.0 c.loop-i-test.true,
    )

pub overflow_add-bits : goal.overflow_add-bits
overflow_add-bits c =
    let f = facts c.loop-i.invariant c.requires.room c.loop-i-test.true in
    let t = lent c.loop-i.invariant f c.requires.span.0 c.put_turn-turn.auto.out c.put_turn-turn.ensures in
    omega (arith, t.place_is, t.few)

pub overflow_add-i : goal.overflow_add-i
overflow_add-i c =
    let f = facts c.loop-i.invariant c.requires.room c.loop-i-test.true in
    let t = lent c.loop-i.invariant f c.requires.span.0 c.put_turn-turn.auto.out c.put_turn-turn.ensures in
    omega (arith, c.if-run_break.true, t.most c.if-run_break.true, f)

pub loop-i-preserved-then-run_break : goal.loop-i-preserved-then-run_break
loop-i-preserved-then-run_break c =
    let f = facts c.loop-i.invariant c.requires.room c.loop-i-test.true in
    let t = lent c.loop-i.invariant f c.requires.span.0 c.put_turn-turn.auto.out c.put_turn-turn.ensures in
    rw (lt-ltb 0 c.put_turn-turn.result.run c.if-run_break.true)
    (loop_run _ _ _ _ _ _ _ _ _ c.loop-i.i c.loop-i.invariant _ _ _ _ _ c.requires.span.0 f.most f.here
    c.if-run_break.true (t.turned.run c.if-run_break.true) t.bytes t.place_is t.size
    (λ i. omega (arith, c.slice_known-in-loop-i-1.given i)))

pub loop-i-preserved : goal.loop-i-preserved
loop-i-preserved c =
    let f = facts c.loop-i.invariant c.requires.room c.loop-i-test.true in
    let t = lent c.loop-i.invariant f c.requires.span.0 c.put_turn-turn.auto.out c.put_turn-turn.ensures in
    rw (le-ltb 0 c.put_turn-turn.result.run c.if-run_break.false)
    (loop_word _ _ _ _ _ _ _ _ _ c.loop-i.i c.loop-i.invariant _ _ _ _ _ c.requires.span.0 f.most f.here
    (t.turned.word (omega arith)) t.bytes t.place_is t.size
    (λ i. omega (arith, c.slice_known-in-loop-i-1.given i)))

pub returns : goal.returns
returns c = loop_end _ _ _ _ _ _ _ _ _ c.loop-i.i c.loop-i.invariant _ _ refl (omega arith) refl refl
