-- Adaptation as the code works it out, and that it keeps medians within 32 bits.
-- Assumes nothing.
use mathlib.Core.Path.{◌≡◌, refl, sym}
use Prim.Native.Nat.{ℕ, zero, suc, ◌+◌, ◌-◌, ◌*◌, ◌/◌, ◌≤◌}
use native.Mathlib.Nat.{div-mul-le_self, mul-le-mul_left}
use native.Mathlib.Omega.{arith}
use Rattle.entropy.specs.Medians.{Medians, Small}
use Rattle.medians.specs.Adaptation.{hold, up, down, adapt}

-- the clause for a count of 3 or more, at a count that is known only by its order
pub adapt_many : (m : Medians) (k : ℕ) → 3 ≤ k → adapt m k ≡ record { m0 = up 128 m.m0; m1 = up 64 m.m1; m2 = up 32 m.m2 }
unfolding adapt
adapt_many m zero h = absurd (omega arith)
adapt_many m (suc zero) h = absurd (omega arith)
adapt_many m (suc (suc zero)) h = absurd (omega arith)
adapt_many m (suc (suc (suc j))) h = refl

-- a number divided by 32 or more
pub div_small : (x d : ℕ) → 32 ≤ d → x / d * 32 ≤ x
div_small x d h = omega (arith, div-mul-le_self x d, mul-le-mul_left (x / d) h)

-- the moves, from the inner sum as it is held
pub up_is : (d m a : ℕ) → 32 ≤ d → a ≡ hold (m + d) → hold (m + a / d * 5) ≡ up d m
unfolding up
up_is d m a h e = rw (sym e) (omega (arith, div_small a d h))

-- a step down never passes 0: where it is 1 at least, the median is 2 at least
pub down_step : (d m a : ℕ) → 32 ≤ d → a ≡ hold (m + (d - 2)) → a / d * 2 ≤ m
down_step d m a h e = go (a / d) (div-mul-le_self a d) (div_small a d h)
  where
    go : (q : ℕ) → q * d ≤ a → q * 32 ≤ a → q * 2 ≤ m
    go zero f g = omega arith
    go (suc q) f g = omega (arith, mul-le-mul_left q h)

-- down, from the inner sum as it is held
pub down_is : (d m a : ℕ) → 32 ≤ d → a ≡ hold (m + (d - 2)) → m - a / d * 2 ≡ down d m
unfolding down
down_is d m a h e = rw (sym e) (omega (arith, div_small a d h, down_step d m a h e))

-- ---- adaptation stays within 32 bits

-- up is held within 32 bits
up_small : (d m : ℕ) → up d m ≤ 4294967295
unfolding up
up_small d m = omega arith

-- down makes no median larger
down-small : (d m : ℕ) → m ≤ 4294967295 → down d m ≤ 4294967295
unfolding down
down-small d m h = omega arith

-- medians of 32 bits adapt to medians of 32 bits
pub adapt-small : (m : Medians) (k : ℕ) → Small m → Small (adapt m k)
unfolding adapt
adapt-small m zero s = record { small0 = down-small 128 m.m0 s.small0; small1 = s.small1; small2 = s.small2 }
adapt-small m (suc zero) s = record { small0 = up_small 128 m.m0; small1 = down-small 64 m.m1 s.small1; small2 = s.small2 }
adapt-small m (suc (suc zero)) s = record { small0 = up_small 128 m.m0; small1 = up_small 64 m.m1; small2 = down-small 32 m.m2 s.small2 }
adapt-small m (suc (suc (suc k))) s = record { small0 = up_small 128 m.m0; small1 = up_small 64 m.m1; small2 = up_small 32 m.m2 }
