-- What the reading loop's locals hold of a state, and that each kind of word keeps them in step
-- with it.
-- Assumes nothing.
use mathlib.Core.Path.{◌≡◌, refl, sym, ap, ◌∙◌}
use mathlib.Core.Bool.{Bool, true, false, not, ◌&&◌}
use mathlib.Core.List.{List, [], ◌∷◌}
use Prim.Native.Nat.{ℕ, zero, suc, ◌+◌, ◌%◌, ◌<◌}
use native.Mathlib.Omega.{arith}
use lib.ListN.{length, get_or, set, length-set}
use Rattle.entropy.specs.declared.AdaptiveMedians.{AdaptiveMedians}
use Rattle.entropy.specs.Medians.{medians_of, pair_of, zero_set}
use Rattle.medians.specs.Adaptation.{adapt}
use Rattle.word_state.proofs.StateLaws.{turned, no_set, there, picked}
use Rattle.readings.specs.Standing.{Held}
use Rattle.word_state.specs.State.{
  State,
  start,
  side,
  flip,
  due,
  with_flags,
  paid,
  in_run,
  unbroken,
  after,
  run_due,
  run_here,
}
use Rattle.words.specs.Word.{word}
use Rattle.words.specs.Parts.{coded_word, CodedIs}
use Rattle.std.specs.Prelude.{Result}
use Rattle.answers.specs.declared.Refusal.{Refusal}
use Rattle.words.specs.declared.coded.Coded.{Coded}
use Rattle.readings.proofs.WordLaws.{word-fresh}

-- both sets, where the one of a channel is replaced by its adaptation
pub record Replaced (ms : List AdaptiveMedians) (x : AdaptiveMedians) (c k : ℕ) : Type 0 where
  pub at_left : side c (adapt (pair_of ms).left k) (pair_of ms).left ≡ (pair_of (set ms c x)).left
  pub at_right : side c (pair_of ms).right (adapt (pair_of ms).right k) ≡ (pair_of (set ms c x)).right

-- a set that is stored replaces the one of its channel
pub replaced : (ms : List AdaptiveMedians) (x : AdaptiveMedians) (c k : ℕ) → length ms ≡ 2 → c < 2 → medians_of x ≡ adapt (medians_of (get_or ms c zero_set)) k → Replaced ms x c k
replaced [] x c k l h e = absurd (omega arith)
replaced (a ∷ []) x c k l h e = absurd (omega arith)
replaced (a ∷ b ∷ ms) x zero k l h e = record { at_left = sym e; at_right = refl }
replaced (a ∷ b ∷ ms) x (suc zero) k l h e = record { at_left = refl; at_right = sym e }
replaced (a ∷ b ∷ ms) x (suc (suc c)) k l h e = absurd (omega arith)

-- the seeds
pub held_start : (ms : List AdaptiveMedians) → length ms ≡ 2 → Held (start (pair_of ms).left (pair_of ms).right) ms 0 false false false 0
held_start ms l = record { pair = l; left_is = refl; right_is = refl; debt-is = refl; break_is = refl; zero_is = refl; one-is = refl; channel-is = refl }

module _ (s : State) (ms : List AdaptiveMedians) (owed : ℕ) (b z o : Bool) (i : ℕ) (h : Held s ms owed b z o i) where
  -- the medians due
  pub held-due : due s ≡ medians_of (get_or ms (i % 2) no_set)
  held-due = rw (there ms (i % 2) h.pair (omega arith), h.channel-is, h.left_is, h.right_is) (picked ms (i % 2) (omega arith))

  -- where none is owed, the word is what was read from the locals
  pub held-coded : (bits : List Bool) (p : ℕ) (r : Result Coded Refusal) (run : Bool) → owed ≡ 0
      → run ≡ (not b && run_due (medians_of (get_or ms 0 no_set)) (medians_of (get_or ms 1 no_set)) z o)
      → CodedIs bits p run (medians_of (get_or ms (i % 2) no_set)) z o r → coded_word s r ≡ word bits p s
  held-coded bits p r run n f c =
      let left = there ms 0 h.pair (omega arith) in
      let right = there ms 1 h.pair (omega arith) in
      let due : run_here s ≡ run =
      rw (h.left_is, h.right_is, h.break_is, h.zero_is, h.one-is, ← left, ← right) (sym f) in
      c.is s due held-due h.zero_is h.one-is ∙ sym (word-fresh bits p s (h.debt-is ∙ n))

  -- a zero that was owed
  pub held-paid : (d : ℕ) → Held (paid d s) ms d b z o (i + 1)
  unfolding paid
  held-paid d = record {
    pair = h.pair;
    left_is = h.left_is;
    right_is = h.right_is;
    debt-is = refl;
    break_is = h.break_is;
    zero_is = h.zero_is;
    one-is = h.one-is;
    channel-is = ap (λ (c : ℕ). flip c) h.channel-is ∙ turned i;
  }

  -- the first zero of a run
  pub held-run : (d : ℕ) → Held (in_run d s) (zero_set ∷ zero_set ∷ []) d true z o (i + 1)
  unfolding in_run
  held-run d = record {
    pair = refl;
    left_is = refl;
    right_is = refl;
    debt-is = refl;
    break_is = refl;
    zero_is = h.zero_is;
    one-is = h.one-is;
    channel-is = ap (λ (c : ℕ). flip c) h.channel-is ∙ turned i;
  }

  -- a sample of count k
  pub held-sample : (k : ℕ) (x : AdaptiveMedians) (z' o' : Bool) → medians_of x ≡ adapt (medians_of (get_or ms (i % 2) no_set)) k
      → Held (after k (with_flags z' o' (unbroken s))) (set ms (i % 2) x) owed false z' o' (i + 1)
  unfolding after unbroken
  held-sample k x z' o' e =
      let r = replaced ms x (i % 2) k h.pair (omega arith) (rw (there ms (i % 2) h.pair (omega arith)) at e) in
      record {
        pair = length-set ms (i % 2) x ∙ h.pair;
        left_is = rw (h.channel-is, h.left_is) r.at_left;
        right_is = rw (h.channel-is, h.right_is) r.at_right;
        debt-is = h.debt-is;
        break_is = refl;
        zero_is = refl;
        one-is = refl;
        channel-is = ap (λ (c : ℕ). flip c) h.channel-is ∙ turned i;
      }
