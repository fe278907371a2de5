-- The two ways that a number leads.
-- Assumes nothing.
use mathlib.Core.Path.{◌≡◌, refl}
use Prim.Native.Nat.{ℕ, zero, suc, ◌<◌}
use native.Mathlib.Omega.{arith}
use Rattle.answers.specs.Guard.{or_else, unless_refused}

-- an earlier refusal is the one that is told
pub refused-first : (n later : ℕ) → 0 < n → or_else n later ≡ n
refused-first zero later h = absurd (omega arith)
refused-first (suc n) later h = refl

-- where the earlier test found nothing the later one decides
pub refused-later : (n later : ℕ) → n ≡ 0 → or_else n later ≡ later
refused-later n later e = rw e

-- none is told only where neither test found anything
pub neither-refused : (n later : ℕ) → or_else n later ≡ 0 → (n ≡ 0) × (later ≡ 0)
neither-refused zero later e = (refl, e)
neither-refused (suc n) later e = absurd (omega arith)

module _ {A : Type 0} where
  -- a refusal keeps
  pub guard_refused : (n : ℕ) (kept : ℕ → A) (happens : A) → 0 < n → unless_refused n kept happens ≡ kept n
  guard_refused zero kept happens h = absurd (omega arith)
  guard_refused (suc n) kept happens h = refl

  -- 0 lets it happen
  pub guard_accepted : (n : ℕ) (kept : ℕ → A) (happens : A) → n ≡ 0 → unless_refused n kept happens ≡ happens
  guard_accepted n kept happens e = rw e
