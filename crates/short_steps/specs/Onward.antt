-- Words one after another, of whatever reading: where it stood and where it stands (R4).
-- Assumes nothing.
-- ---- for the code alone
use Rattle.std.specs.Prelude.{◌≡◌, Bool, false, List, [], ◌∷◌, ℕ, ◌≤◌, ℤ, length, get_or}
use Rattle.entropy.specs.declared.AdaptiveMedians.{AdaptiveMedians}
use Rattle.entropy.specs.Medians.{zero_set}
use Rattle.word_state.specs.State.{State}
use Rattle.readings.specs.Standing.{Words}
use Rattle.short_steps.specs.declared.standing.Standing.{Standing}

-- the words of a reading that stands there, where no zero is owed and no run is before it
abbrev pub At : List ℕ → List ℤ → State → List ℤ → Standing → Type 0
At payload out₀ s₀ out x =
    Words payload out₀ s₀ out (x.left ∷ x.right ∷ []) 0 false x.last_zero x.last_one
    x.place x.left_bits x.written

-- the standing that the loop's array of medians and its other locals make
abbrev pub standing : (p a i : ℕ) → List AdaptiveMedians → Bool → Bool → a ≤ p → Standing
standing p a i ms z o h = record {
  place = p;
  left_bits = a;
  written = i;
  left = get_or ms 0 zero_set;
  right = get_or ms 1 zero_set;
  last_zero = z;
  last_one = o;
  part = h;
}

-- words one after another, of whatever reading: it stood at the first place, and stands at the
-- second
pub record Onward (payload : List ℕ) (before after : List ℤ) (from to : Standing) : Type 0 where
  pub goes : (out₀ : List ℤ) (s₀ : State) → At payload out₀ s₀ before from → At payload out₀ s₀ after to
  pub since : from.written ≤ to.written
  pub within : to.written ≤ length after
  pub same : length after ≡ length before
