-- Document 01, "One word", the interval of a count k (I1, I2, I3): where it starts, how wide it is,
-- and its low and high ends.
-- Assumes nothing.
use Rattle.std.specs.Prelude.{◌≡◌, ℕ, zero, suc, ◌+◌, ◌-◌, ◌*◌, ◌/◌, ◌%◌, ◌≤◌, ◌<◌, max}
use Rattle.answers.specs.Limits.{max_width}
use Rattle.entropy.specs.Medians.{Medians}

-- document 01 (I1): "g_i = median_i div 16 + 1"
abbrev pub g : ℕ → ℕ
g median = median / 16 + 1

-- document 01 (I2): "k = 0: from 0, width g0. k = 1: from g0, width g1. k of 2 or more: from g0 +
-- g1 + (k - 2) times g2, width g2"
abbrev pub base : Medians → ℕ → ℕ
base m zero = 0
base m (suc zero) = g m.m0
base m (suc (suc j)) = g m.m0 + g m.m1 + j * g m.m2

-- the widths of the same sentence
abbrev pub width : Medians → ℕ → ℕ
width m zero = g m.m0
width m (suc zero) = g m.m1
width m (suc (suc j)) = g m.m2

-- document 01 (I3): "Low and high (low + width - 1) wrap at 32 bits, then lose the top bit"
abbrev pub wrapped : ℕ → ℕ
wrapped n = n % 4294967296 % 2147483648

-- the low end
unfoldable pub low_of : Medians → ℕ → ℕ
low_of m k = wrapped (base m k)

-- document 01 (I3): "high below low becomes low"
unfoldable pub high_of : Medians → ℕ → ℕ
high_of m k = max (wrapped (base m k)) (wrapped (base m k + width m k - 1))

-- low and high are the ends of the interval of k; and its width, of medians of 32 bits, has 28 bits
pub record IntervalIs (m : Medians) (k low high : ℕ) : Type 0 where
  pub low-is : low ≡ low_of m k
  pub high_is : high ≡ high_of m k
  pub some : 0 < width m k
  pub most : width m k ≤ max_width
