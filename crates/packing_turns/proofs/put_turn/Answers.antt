-- `packing_turns::put_turn` meets its contract.
-- Assumes nothing.
use mathlib.Core.Path.{◌≡◌, refl, ap, ◌∙◌}
use mathlib.Core.Bool.{Bool}
use mathlib.Core.List.{List, ◌∷◌}
use Prim.Native.Nat.{ℕ, suc, ◌+◌, ◌<◌}
use native.Mathlib.Omega.{arith}
use native.Mathlib.Numerals.{add-one}
use lib.IntN.{ℤ, pos}
use lib.ListN.{length, drop, get_or}
use lib.Seq.{drop-cons}
use mir.Facts.{to_z-of_z}
use mir.Syntax.{w32}
use mir.Val.{SFits, to_z, of_z}
use Rattle.entropy.specs.Medians.{Medians, medians_of}
use Rattle.word_bits.specs.Residuals.{ahead}
use Rattle.word_bits.specs.View.{BeforeIs, WordIs}
use Rattle.word_bits.specs.declared.Before.{Before}
use Rattle.word_bits.specs.declared.Word.{Word}
use Rattle.packing.specs.declared.Turn.{Turn}
use Rattle.word_bits.proofs.PutLaws.{before-few}
use Rattle.packing.proofs.TurnLaws.{turn-run, turn-word}
use borrow.Author.Rules.{rules}
use Rattle.packing_turns.proofs.put_turn.Goals as goal

-- the run length, by the code's test
before-is : (vs : List ℤ) (i : ℕ) {out mid : List ℕ} {at : ℕ} {t u : Bool} {b : Before} → i < length vs
    → t ≡ u
    → BeforeIs out mid at t (drop i vs) b → BeforeIs out mid at u (get_or vs i (pos 0) ∷ drop (suc i) vs) b
before-is vs i h e w = rw (← e, ← drop-cons vs i (pos 0) h) w

-- whether the next word's count is above 0
more-is : (m : Medians) (vs : List ℤ) (i : ℕ) {more : Bool} → more ≡ ahead m (drop (i + 1) vs)
    → more ≡ ahead m (drop (suc i) vs)
more-is m vs i e = e ∙ ap (λ (n : ℕ). ahead m (drop n vs)) (add-one i)

-- the word
word-is : (v : ℤ) {mid after : List ℕ} {place : ℕ} {m : Medians} {last_zero last_one more next : Bool}
    {w : Word} → SFits w32 v → more ≡ next
    → WordIs mid after place m (to_z w32 (of_z w32 v)) last_zero last_one more w
    → WordIs mid after place m v last_zero last_one next w
word-is v f e w = rw (← e, ← to_z-of_z f) w

pub returns-then-before-gt0 : goal.returns-then-before-gt0
returns-then-before-gt0 c =
    let a = c.args in
    let vs = c.args.residuals.now in
    let e = c.run_turn.ensures in
    let b = before-is vs a.i (omega arith) c.zero_run_eligible-asked.ensures c.put_before-before.ensures in
    record {
      turned = λ s seen.
          turn-run s (medians_of a.due) (medians_of a.other) a.last_zero a.last_one a.run_break
          (get_or vs a.i (pos 0)) (drop (suc a.i) vs) seen
          a.out.now _ a.at _ _ b (omega arith)
          (ap (λ (t : Turn). t.place) e) (ap (λ (t : Turn). t.run) e) (ap (λ (t : Turn). t.last_zero) e)
          (ap (λ (t : Turn). t.last_one) e);
    }

pub put_word-word-requires-clause-room : goal.put_word-word-requires-clause-room
put_word-word-requires-clause-room c =
    let b = before-is c.args.residuals.now c.args.i
    (omega arith) c.zero_run_eligible-asked.ensures c.put_before-before.ensures in
    let n = before-few _ _ _ _ _ _ b (omega arith) in
    (omega arith, omega (arith, c.put_before-before.auto.out))

pub returns : goal.returns
returns c =
    let a = c.args in
    let vs = c.args.residuals.now in
    let m = more-is (medians_of a.other) vs a.i c.is_ahead-more.ensures in
    let b = before-is vs a.i (omega arith) c.zero_run_eligible-asked.ensures c.put_before-before.ensures in
    let f : SFits w32 (get_or vs a.i (pos 0)) = search rules in
    record {
      turned = λ s seen.
          turn-word s (medians_of a.due) (medians_of a.other) a.last_zero a.last_one a.run_break
          (get_or vs a.i (pos 0)) (drop (suc a.i) vs) seen
          a.out.now _ _ a.at _ _ _ (omega arith) b (omega arith)
          (word-is _ f m c.put_word-word.ensures) refl refl refl
          (c.zero_after.ensures ∙ rw m)
          (c.one_after.ensures ∙ rw m);
    }
