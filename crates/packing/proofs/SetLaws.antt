-- The array of two sets of medians that the loop holds: the set of a channel, the other, and one of
-- them replaced.
-- Assumes nothing.
use mathlib.Core.Path.{◌≡◌, refl, sym, ap, ◌∙◌}
use mathlib.Core.List.{List, [], ◌∷◌}
use Prim.Native.Nat.{ℕ, zero, suc, ◌-◌, ◌<◌}
use native.Mathlib.Omega.{arith}
use lib.ListN.{length, get_or, set}
use Rattle.entropy.specs.declared.AdaptiveMedians.{AdaptiveMedians}
use Rattle.entropy.specs.Medians.{medians_of, zero_set}
use Rattle.word_state.specs.State.{side}
use Rattle.word_state.proofs.StateLaws.{no_set, there, picked}

-- one of the two sets, and the other
pub set_is : (sets : List AdaptiveMedians) (c : ℕ) → length sets ≡ 2 → c < 2 → side c (medians_of (get_or sets 0 zero_set)) (medians_of (get_or sets 1 zero_set)) ≡ medians_of (get_or sets c no_set)
set_is sets c e h = picked sets c h ∙ ap medians_of (sym (there sets c e h))

-- the other of them
pub other-is : (sets : List AdaptiveMedians) (c : ℕ) → length sets ≡ 2 → c < 2 → side c (medians_of (get_or sets 1 zero_set)) (medians_of (get_or sets 0 zero_set)) ≡ medians_of (get_or sets (1 - c) no_set)
other-is sets zero e h = ap medians_of (sym (there sets 1 e (omega arith)))
other-is sets (suc zero) e h = ap medians_of (sym (there sets 0 e (omega arith)))
other-is sets (suc (suc c)) e h = absurd (omega arith)

-- one of them replaced
pub record Replaced (sets : List AdaptiveMedians) (x : AdaptiveMedians) (c : ℕ) : Type 0 where
  pub at_left : side c (medians_of x) (medians_of (get_or sets 0 zero_set)) ≡ medians_of (get_or (set sets c x) 0 zero_set)
  pub at_right : side c (medians_of (get_or sets 1 zero_set)) (medians_of x) ≡ medians_of (get_or (set sets c x) 1 zero_set)

-- the set of channel c is the new one, the other is as it was
pub replaced : (sets : List AdaptiveMedians) (x : AdaptiveMedians) (c : ℕ) → length sets ≡ 2 → c < 2 → Replaced sets x c
replaced [] x c l h = absurd (omega arith)
replaced (a ∷ []) x c l h = absurd (omega arith)
replaced (a ∷ b ∷ l) x zero e h = record { at_left = refl; at_right = refl }
replaced (a ∷ b ∷ l) x (suc zero) e h = record { at_left = refl; at_right = refl }
replaced (a ∷ b ∷ l) x (suc (suc c)) e h = absurd (omega arith)
