-- Why a payload is refused, and which one is accepted: by its length, then by its log words, then by
-- the signs of its medians.
-- Assumes nothing.
use mathlib.Core.Path.{◌≡◌, refl, sym, ap, ◌∙◌}
use mathlib.Core.Bool.{Bool, true, false, cond, ◌||◌}
use mathlib.Core.List.{List}
use Prim.Native.Nat.{ℕ, ◌<◌}
use native.Mathlib.Omega.{arith}
use lib.Dec.{eqb}
use lib.ListN.{length, drop}
use borrow.Author.Tests.{eqb-true, eqb-false}
use Rattle.answers.proofs.GuardLaws.{refused-first, refused-later}
use Rattle.entropy.specs.Entropy.{word_set, set_out_of_reach, is_mono, past_reach, entropy_refusal}
use Rattle.entropy.specs.Seed.{any_negative, not_stereo, seed_refusal}
use Rattle.entropy.specs.Silent.{WhyTwo, TwoSets}
use Rattle.entropy.specs.Reach.{WhySeventeen}
use Rattle.entropy.proofs.EntropyLaws.{told, past-mono, past-stereo, refusal-mono, refusal-stereo, refusal-length, info_stereo}

-- what the entropy payload's own refusal is, is told
pub refused-before : (p : List ℕ) {n : ℕ} → entropy_refusal p ≡ n → 0 < n → seed_refusal p ≡ n
unfolding seed_refusal
refused-before p e h = refused-first (entropy_refusal p) (cond (not_stereo p) 2 0) (rw e h) ∙ e

-- where there is none, the test of stereo decides
refused-behind : (p : List ℕ) → entropy_refusal p ≡ 0 → seed_refusal p ≡ cond (not_stereo p) 2 0
unfolding seed_refusal
refused-behind p e = refused-later (entropy_refusal p) (cond (not_stereo p) 2 0) e

-- 6 bytes are mono
six-refused : (p : List ℕ) → length p ≡ 6 → past_reach p ≡ false → seed_refusal p ≡ 2
unfolding not_stereo is_mono
six-refused p h r = refused-behind p (refusal-mono p h ∙ ap told r) ∙ rw h

-- of 12 bytes in reach the signs of the medians decide
pub twelve-by_signs : (p : List ℕ) → length p ≡ 12 → past_reach p ≡ false → seed_refusal p ≡ cond (any_negative (word_set p) || any_negative (word_set (drop 6 p))) 2 0
unfolding not_stereo is_mono
twelve-by_signs p h r =
    let e = refusal-stereo p h ∙ ap told r in
    refused-behind p e ∙ rw (info_stereo p h e, h)

-- what is told of a payload by its number
pub record Reasons (p : List ℕ) (n : ℕ) : Type 0 where
  pub two : n ≡ 2 → WhyTwo p
  pub seventeen : n ≡ 17 → WhySeventeen p
  pub sets : n ≡ 0 → TwoSets p

pub reasons : (p : List ℕ) → Reasons p (seed_refusal p)
reasons p = by_length (eqb (length p) 6) (eqb (length p) 12) refl refl
  where
    by_signs : (a b : Bool) → any_negative (word_set p) ≡ a → any_negative (word_set (drop 6 p)) ≡ b → length p ≡ 12 → past_reach p ≡ false → Reasons p (cond (a || b) 2 0)
    by_signs true b f g h r = record { two = λ e. WhyTwo.negative-left h r f; seventeen = λ e. absurd (omega arith); sets = λ e. absurd (omega arith) }
    by_signs false true f g h r = record { two = λ e. WhyTwo.negative-right h r g; seventeen = λ e. absurd (omega arith); sets = λ e. absurd (omega arith) }
    by_signs false false f g h r =
        record { two = λ e. absurd (omega arith); seventeen = λ e. absurd (omega arith); sets = λ e. record { twelve = h; reached = r; left = f; right = g } }

    -- a payload that is past the reach is refused with 17
    past : WhySeventeen p → entropy_refusal p ≡ told (past_reach p) → past_reach p ≡ true → Reasons p (seed_refusal p)
    past why e r =
        rw (refused-before p (e ∙ ap told r) (omega arith))
        (record { two = λ f. absurd (omega arith); seventeen = λ f. why; sets = λ f. absurd (omega arith) })

    of_three : (a : Bool) → (a || false) ≡ true → a ≡ true
    of_three true e = refl
    of_three false e = e

    of_six : (a b : Bool) → set_out_of_reach p ≡ a → set_out_of_reach (drop 6 p) ≡ b → length p ≡ 12 → (a || b) ≡ true → WhySeventeen p
    of_six true b f g h e = WhySeventeen.left h f
    of_six false b f g h e = WhySeventeen.right h (g ∙ e)

    mono : (r : Bool) → past_reach p ≡ r → length p ≡ 6 → Reasons p (seed_refusal p)
    mono true r h = past (WhySeventeen.mono h (of_three (set_out_of_reach p) (sym (past-mono p h) ∙ r))) (refusal-mono p h) r
    mono false r h =
        rw (six-refused p h r)
        (record { two = λ e. WhyTwo.six h r; seventeen = λ e. absurd (omega arith); sets = λ e. absurd (omega arith) })

    stereo : (r : Bool) → past_reach p ≡ r → length p ≡ 12 → Reasons p (seed_refusal p)
    stereo true r h =
        past (of_six (set_out_of_reach p) (set_out_of_reach (drop 6 p)) refl refl h (sym (past-stereo p h) ∙ r)) (refusal-stereo p h) r
    stereo false r h =
        rw (twelve-by_signs p h r) (by_signs (any_negative (word_set p)) (any_negative (word_set (drop 6 p))) refl refl h r)

    by_length : (a b : Bool) → eqb (length p) 6 ≡ a → eqb (length p) 12 ≡ b → Reasons p (seed_refusal p)
    by_length true b f g = mono (past_reach p) refl (eqb-true (length p) 6 f)
    by_length false true f g = stereo (past_reach p) refl (eqb-true (length p) 12 g)
    by_length false false f g =
        rw (refused-before p (refusal-length p (eqb-false (length p) 6 f) (eqb-false (length p) 12 g)) (omega arith))
        (record { two = λ e. absurd (omega arith); seventeen = λ e. absurd (omega arith); sets = λ e. absurd (omega arith) })

-- a test that holds decides, whatever the one before it
pub or-true : (a : Bool) → (a || true) ≡ true
or-true true = refl
or-true false = refl

-- (Q2.2) each of the reasons for 2 is told
pub two-told : (p : List ℕ) → WhyTwo p → seed_refusal p ≡ 2
two-told p (WhyTwo.six h r) = six-refused p h r
two-told p (WhyTwo.negative-left h r e) = rw (twelve-by_signs p h r, e)
two-told p (WhyTwo.negative-right h r e) = rw (twelve-by_signs p h r, e, or-true (any_negative (word_set p)))
