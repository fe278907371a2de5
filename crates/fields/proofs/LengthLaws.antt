-- What is known of a number's bit length.
-- Assumes nothing.
use mathlib.Core.Path.{◌≡◌}
use Prim.Native.Nat.{ℕ, zero, suc, ◌+◌, ◌-◌, ◌*◌, ◌^◌, ◌≤◌, ◌<◌}
use native.Mathlib.Nat.{not-le_of_lt, lt_of_not-le}
use native.Mathlib.Omega.{arith}
use lib.Count.{count_leading_zeros, leading_length}
use lib.Pow.{pow_mono}
use Rattle.fields.specs.Code.{bit_length}

-- what it is for b to be n's bit length: the power below it is at most n, and its own power above n
pub record Long (n b : ℕ) : Type 0 where
  pub some : 0 < b
  pub twice : 2 ^ b ≡ 2 * 2 ^ (b - 1)
  pub above : n < 2 ^ b
  pub below : 2 ^ (b - 1) ≤ n

-- `bit_length` is that length
pub long : (n : ℕ) → 0 < n → n < 2 ^ 32 → Long n (bit_length n)
unfolding bit_length
long n p h =
    let t = leading_length 32 n h in
    let b : 32 - count_leading_zeros 32 n ≡ t.0 = omega (arith, t.1) in
    rw b (go t.0 t.2 t.3)
  where
    go : (b : ℕ) → n < 2 ^ b → 2 ^ b ≤ 2 * n + 1 → Long n b
    go zero a l = absurd (omega arith)
    go (suc b) a l =
        let e : suc b - 1 ≡ b = omega arith in
        record { some = omega arith; twice = rw e (omega arith); above = a; below = rw e (omega arith) }

-- no number of w bits is longer than w
pub long_le : (n b w : ℕ) → Long n b → n < 2 ^ w → b ≤ w
long_le n b w l h =
    let k : b - 1 < w = lt_of_not-le (λ (g : w ≤ b - 1). not-le_of_lt h (omega (arith, pow_mono g, l.below))) in
    omega (arith, l.some)
