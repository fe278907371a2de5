-- Which setting three fields stand for (row Q6.2). Assumes nothing.
use mathlib.Core.Path.{◌≡◌, refl}
use Prim.Native.Nat.{ℕ, zero, suc, ◌≤◌, ◌<◌}
use native.Mathlib.Omega.{arith}
use Rattle.int32_sample.specs.Setting.{zeros, ones, dups, setting}

-- zeros, where they are not 0
pub is-zeros : (z o d : ℕ) → 0 < z → setting z o d ≡ zeros z
is-zeros zero o d h = absurd (omega arith)
is-zeros (suc z) o d h = refl

-- ones, where zeros are 0 and they are not
pub is-ones : (z o d : ℕ) → z ≤ 0 → 0 < o → setting z o d ≡ ones o
is-ones zero zero d h l = absurd (omega arith)
is-ones zero (suc o) d h l = refl
is-ones (suc z) o d h l = absurd (omega arith)

-- copies, where both are 0
pub is-dups : (z o d : ℕ) → z ≤ 0 → o ≤ 0 → setting z o d ≡ dups d
is-dups zero zero d h l = refl
is-dups zero (suc o) d h l = absurd (omega arith)
is-dups (suc z) o d h l = absurd (omega arith)
