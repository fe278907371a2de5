-- The interval as the code works it out: its ends are in order and have 31 bits, its width 28.
-- Assumes nothing.
use mathlib.Core.Path.{◌≡◌, refl, ap, ap₂, ◌∙◌}
use Prim.Native.Nat.{ℕ, zero, suc, ◌+◌, ◌-◌, ◌*◌, ◌≤◌, ◌<◌, max}
use native.Mathlib.Omega.{arith}
use Rattle.answers.specs.Limits.{max_width}
use Rattle.entropy.specs.Medians.{Medians, Small}
use Rattle.medians.specs.Interval.{g, base, width, wrapped, low_of, high_of, IntervalIs}

-- the clauses for a count of 2 or more, at a count that is known only by its order
pub base-many : (m : Medians) (k a b c n : ℕ) → 2 ≤ k → a ≡ g m.m0 → b ≡ g m.m1 → n ≡ k - 2 → c ≡ g m.m2 → a + b + n * c ≡ base m k
base-many m zero a b c n h ea eb en ec = absurd (omega arith)
base-many m (suc zero) a b c n h ea eb en ec = absurd (omega arith)
base-many m (suc (suc j)) a b c n h ea eb en ec = let e : n ≡ j = omega arith in rw (ea, eb, e, ec)

-- the width of a count of 2 or more
pub width-many : (m : Medians) (k : ℕ) → 2 ≤ k → width m k ≡ g m.m2
width-many m zero h = absurd (omega arith)
width-many m (suc zero) h = absurd (omega arith)
width-many m (suc (suc j)) h = refl

-- an interval is at least 1 and at most 2 ^ 28 wide
pub width_le : (m : Medians) (k : ℕ) → Small m → (0 < width m k) × (width m k ≤ max_width)
width_le m zero s = omega arith
width_le m (suc zero) s = omega arith
width_le m (suc (suc k)) s = omega arith

-- the ends are in order and have 31 bits
pub ends : (m : Medians) (k : ℕ) → (low_of m k ≤ high_of m k) × (high_of m k < 2147483648)
unfolding low_of high_of
ends m k = (omega arith, omega arith)

-- what is known of the ends of an interval: they are in order and have 31 bits, the last code 28
pub record Ends (low high : ℕ) : Type 0 where
  pub ordered : low ≤ high
  pub within : high < 2147483648
  pub last : high - low < max_width

pub told-ends : (m : Medians) (k low high : ℕ) → IntervalIs m k low high → Ends low high
unfolding low_of high_of
told-ends m k low high i = record { ordered = omega arith; within = omega arith; last = omega arith }

-- an interval is told by its start and its width
pub interval_is : (m : Medians) (k b w low high : ℕ) → b ≡ base m k → w ≡ width m k → (0 < w) ×
    (w ≤ max_width) → low ≡ wrapped b → high ≡ max (wrapped b) (wrapped (b + w - 1))
    → IntervalIs m k low high
unfolding low_of high_of
interval_is m k b w low high e f n l h =
    let n' = rw f at n in
    record {
      low-is = l ∙ ap (λ (x : ℕ). wrapped x) e;
      high_is = h ∙ ap₂ (λ (x y : ℕ). max (wrapped x) (wrapped (x + y - 1))) e f;
      some = n'.0;
      most = n'.1;
    }
