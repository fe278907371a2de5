-- Short words one after another: each takes a reading one word on, the left one and the right one.
-- Assumes nothing.
use mathlib.Core.Path.{◌≡◌, refl, sym, ◌∙◌}
use mathlib.Core.Bool.{true, false}
use mathlib.Core.List.{List, [], ◌∷◌}
use Prim.Native.Nat.{ℕ, zero, suc, ◌+◌, ◌-◌, ◌%◌, ◌≤◌, ◌<◌}
use native.Mathlib.Omega.{arith}
use lib.IntN.{ℤ}
use lib.ListN.{length, get_or, set, length-set}
use Rattle.std.specs.Prelude.{Result, Ok}
use Rattle.answers.specs.declared.Refusal.{Refusal}
use Rattle.bits.specs.Bits.{bits_of}
use Rattle.entropy.specs.Medians.{Medians, medians_of}
use Rattle.entropy.specs.declared.AdaptiveMedians.{AdaptiveMedians}
use Rattle.short_words.specs.Short.{ShortWordIs}
use Rattle.short_words.specs.declared.ShortWord.{ShortWord}
use Rattle.word_state.specs.State.{side, run_due}
use Rattle.word_state.proofs.FlagLaws.{due-either}
use Rattle.word_state.proofs.StateLaws.{no_set}
use Rattle.words.specs.declared.coded.Coded.{Coded}
use Rattle.words.proofs.JoinLaws.{coded_word_lem}
use Rattle.words.proofs.PartLaws.{run_skipped}
use Rattle.short_steps.specs.Onward.{Onward}
use Rattle.short_steps.specs.Steps.{Ready, behind, SteppedIs, StepIs}
use Rattle.short_steps.specs.declared.standing.Standing.{Standing}
use Rattle.short_steps.specs.declared.Step.{Step}
use Rattle.readings.proofs.CostLaws.{either-stem}
use Rattle.readings.proofs.HeldLaws.{held-coded}
use Rattle.readings.proofs.StandingLaws.{words-sample}

-- no word
pub onward-none : (payload : List ℕ) (out : List ℤ) (x : Standing) → x.written ≤ length out
    → Onward payload out out x x
onward-none payload out x h = record { goes = λ out₀ s₀ l. l; since = omega arith; within = h; same = refl }

-- words, and then more of them
pub onward_then : (payload : List ℕ) (a b c : List ℤ) (x y z : Standing) → Onward payload a b x y
    → Onward payload b c y z → Onward payload a c x z
onward_then payload a b c x y z f g = record {
  goes = λ out₀ s₀ l. g.goes out₀ s₀ (f.goes out₀ s₀ l);
  since = omega (arith, f.since, g.since);
  within = g.within;
  same = g.same ∙ f.same;
}

module _ (payload : List ℕ) (out : List ℤ) (x : Standing) (w : ℕ) (h : x.written < length out)
    (v : Ready payload x w) (y : ShortWord) where
  -- left's bits after a word are a part of all: what the laws of the left and of the right word take
  pub part_after : (c total : ℕ) → x.left_bits + side c (x.place + y.used - x.place) 0 ≡ total → total ≤ x.place + y.used
  part_after c total a = omega (arith, x.part, a, either-stem c (x.place + y.used - x.place))

  -- the word of the channel c, whose medians are due, and left's bits and the two sets after it
  onward-word : (c total : ℕ) (due left right : AdaptiveMedians) (other : Medians) → x.written % 2 ≡ c
      → (a : x.left_bits + side c (x.place + y.used - x.place) 0 ≡ total)
      → get_or (x.left ∷ x.right ∷ []) c no_set ≡ due
      → set (x.left ∷ x.right ∷ []) c y.medians ≡ left ∷ right ∷ []
      → ShortWordIs w (medians_of due) other x.last_zero x.last_one y
      → Onward payload out (set out x.written y.value) x (behind x y total left right (part_after c total a))
  onward-word c total due left right other e a d f t =
      let bits = bits_of payload in
      let sets = x.left ∷ x.right ∷ [] in
      let word : Result Coded Refusal = Ok (Coded.Sample y.value t.count (x.place + y.used) y.last_zero y.last_one) in
      let k = coded_word_lem bits x.place (medians_of due) x.last_zero x.last_one false x.place _ (run_skipped bits x.place) (t.is bits x.place v.window) in
      record {
        goes = λ out₀ s₀ l.
            let n = held-coded l.state sets 0 false x.last_zero x.last_one
            x.written l.held in
            let c = n bits x.place word false refl (sym v.no_run) (rw (e, d) k) in
            rw (e, a, f) at (words-sample payload out₀ s₀ out sets 0 false _ _ _ _ x.written l word h c
            y.value t.count (x.place + y.used) _ _ y.medians refl (rw (e, d) t.adapted));
        since = omega arith;
        within = omega (arith, length-set out x.written y.value);
        same = length-set out x.written y.value;
      }

  -- whatever proves that part, it is the same
  by_part : (total : ℕ) (left right : AdaptiveMedians) (p q : total ≤ x.place + y.used)
      → Onward payload out (set out x.written y.value) x (behind x y total left right p)
      → Onward payload out (set out x.written y.value) x (behind x y total left right q)
  by_part total left right p q o = record { goes = o.goes; since = o.since; within = o.within; same = o.same }

  pub onward-left : x.written % 2 ≡ 0
      → ShortWordIs w (medians_of x.left) (medians_of x.right) x.last_zero x.last_one y
      → (part : x.left_bits + y.used ≤ x.place + y.used)
      → Onward payload out (set out x.written y.value) x (behind x y (x.left_bits + y.used) y.medians x.right part)
  onward-left e t part =
      by_part _ y.medians x.right _ part
      (onward-word 0 _ x.left y.medians x.right (medians_of x.right) e (omega arith) refl refl t)

  pub onward-right : x.written % 2 ≡ 1
      → ShortWordIs w (medians_of x.right) (medians_of x.left) x.last_zero x.last_one y
      → (part : x.left_bits ≤ x.place + y.used)
      → Onward payload out (set out x.written y.value) x (behind x y x.left_bits x.left y.medians part)
  onward-right e t part =
      by_part _ x.left y.medians _ part
      (onward-word 1 _ x.right x.left y.medians (medians_of x.left) e (omega arith) refl refl t)

-- ---- steps

module _ (payload : List ℕ) (out after : List ℤ) (x : Standing) (w : ℕ) (h : x.written < length out)
    (v : Ready payload x w) (y : ShortWord) (r : Step) where
  -- a word, with left's bits and the two sets after it
  stepped-on : (total : ℕ) (left right : AdaptiveMedians)
      → ((part : total ≤ x.place + y.used) → Onward payload out (set out x.written y.value) x (behind x y total left right part))
      → y.used ≤ 57
      → (y.on ≡ true → run_due (medians_of left) (medians_of right) y.last_zero y.last_one ≡ false)
      → SteppedIs payload out after x y total left right r
      → StepIs payload out after x r
  stepped-on total left right g u n s = record {
    onward = rw (s.list-is, s.at-is) (g s.part);
    ready = λ o. rw s.at-is (record { window = s.window; no_run = n (sym s.on-is ∙ o) });
    next = λ o. rw s.at-is;
    near = rw s.at-is (omega arith);
  }

  left_step : x.written % 2 ≡ 0
      → ShortWordIs w (medians_of x.left) (medians_of x.right) x.last_zero x.last_one y
      → SteppedIs payload out after x y (x.left_bits + y.used) y.medians x.right r
      → StepIs payload out after x r
  left_step e t s = stepped-on _ y.medians x.right (onward-left payload out x w h v y e t) t.most t.unbroken s

  right_step : x.written % 2 ≡ 1
      → ShortWordIs w (medians_of x.right) (medians_of x.left) x.last_zero x.last_one y
      → SteppedIs payload out after x y x.left_bits x.left y.medians r
      → StepIs payload out after x r
  right_step e t s = stepped-on _ x.left y.medians (onward-right payload out x w h v y e t) t.most (λ o. due-either _ _ _ _ ∙ t.unbroken o) s

  -- the word of either channel
  pub either_step : (c : ℕ) → x.written % 2 ≡ c
      → ShortWordIs w (medians_of (side c x.left x.right)) (medians_of (side c x.right x.left)) x.last_zero x.last_one y
      → SteppedIs payload out after x y (x.left_bits + side c y.used 0) (side c y.medians x.left) (side c x.right y.medians) r
      → StepIs payload out after x r
  either_step zero e t s = left_step e t s
  either_step (suc zero) e t s = let z : x.left_bits + 0 ≡ x.left_bits = omega arith in right_step e t (rw z at s)
  either_step (suc (suc c)) e t s = absurd (omega arith)
