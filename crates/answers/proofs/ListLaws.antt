-- The tests of a list of frames and of the storage for it, one after the other.
-- Assumes nothing.
use mathlib.Core.Path.{◌≡◌, refl}
use mathlib.Core.Bool.{Bool, true, false, cond}
use Prim.Native.Nat.{ℕ, ◌%◌, ◌≤◌, ◌<◌}
use native.Mathlib.Omega.{arith}
use borrow.Author.Tests.{lt-ltb, le-ltb, eq-eqb, ne_eqb, ltb-false, eqb-true}
use lib.Dec.{ltb, eqb}
use Rattle.answers.specs.Limits.{max_elements}
use Rattle.answers.specs.Lists.{frames_refusal, Fitting}

module _ (elements needed room : ℕ) where
  -- 5: over 262,144 samples
  pub frames_long : max_elements < elements → frames_refusal elements needed room ≡ 5
  unfolding frames_refusal
  frames_long h = rw (lt-ltb max_elements elements h)

  -- 6: an odd number of them
  pub frames_odd : elements ≤ max_elements → (elements % 2 ≡ 0 → ⊥) → frames_refusal elements needed room ≡ 6
  unfolding frames_refusal
  frames_odd f h = rw (le-ltb max_elements elements f, ne_eqb (elements % 2) 0 h)

  -- 11: storage that is too short
  pub frames_room : elements ≤ max_elements → elements % 2 ≡ 0 → room < needed → frames_refusal elements needed room ≡ 11
  unfolding frames_refusal
  frames_room f e h = rw (le-ltb max_elements elements f, eq-eqb (elements % 2) 0 e, lt-ltb room needed h)

  -- none of them
  pub frames_none : Fitting elements needed room → frames_refusal elements needed room ≡ 0
  unfolding frames_refusal
  frames_none f = rw (le-ltb max_elements elements f.few, eq-eqb (elements % 2) 0 f.whole_frames, le-ltb room needed f.enough)

  -- and then all of it holds
  pub frames_fit : frames_refusal elements needed room ≡ 0 → Fitting elements needed room
  unfolding frames_refusal
  frames_fit e = long (ltb max_elements elements) refl e
    where
      short : elements ≤ max_elements → elements % 2 ≡ 0 → (t : Bool) → ltb room needed ≡ t → ◌≡◌ {A = ℕ} (cond t 11 0) 0 → Fitting elements needed room
      short f w true q e = absurd (omega arith)
      short f w false q e = record { few = f; whole_frames = w; enough = ltb-false _ _ q }

      odd : elements ≤ max_elements → (t : Bool) → eqb (elements % 2) 0 ≡ t → ◌≡◌ {A = ℕ} (cond t (cond (ltb room needed) 11 0) 6) 0 → Fitting elements needed room
      odd f true q e = short f (eqb-true _ _ q) (ltb room needed) refl e
      odd f false q e = absurd (omega arith)

      long : (t : Bool) → ltb max_elements elements ≡ t → ◌≡◌ {A = ℕ} (cond t 5 (cond (eqb (elements % 2) 0) (cond (ltb room needed) 11 0) 6)) 0
          → Fitting elements needed room
      long true q e = absurd (omega arith)
      long false q e = odd (ltb-false _ _ q) (eqb (elements % 2) 0) refl e
