-- Document 01, "One word", adaptation (A1 to A4): how a word of count k moves the medians of its
-- channel.
-- Assumes nothing.
use Rattle.std.specs.Prelude.{ℕ, zero, suc, ◌+◌, ◌-◌, ◌*◌, ◌/◌, min}
use Rattle.entropy.specs.Medians.{Medians}

-- document 01 (A3): "each step, the inner sum included, held within 0 to 4,294,967,295"; a
-- difference stops at 0 by itself
abbrev pub hold : ℕ → ℕ
hold n = min n 4294967295

-- document 01 (A1): "up adds ((m + d) div d) times 5"
unfoldable pub up : ℕ → ℕ → ℕ
up d m = hold (m + hold (hold (m + d) / d * 5))

-- document 01 (A2): "down takes ((m + d - 2) div d) times 2"
unfoldable pub down : ℕ → ℕ → ℕ
down d m = m - hold (hold (m + (d - 2)) / d * 2)

-- document 01 (A4), d = 128, 64, 32: "k = 0: down 0. k = 1: up 0, down 1. k = 2: up 0, 1, down 2.
-- Above: up all"
unfoldable pub adapt : Medians → ℕ → Medians
adapt m zero = record { m0 = down 128 m.m0; m1 = m.m1; m2 = m.m2 }
adapt m (suc zero) = record { m0 = up 128 m.m0; m1 = down 64 m.m1; m2 = m.m2 }
adapt m (suc (suc zero)) = record { m0 = up 128 m.m0; m1 = up 64 m.m1; m2 = down 32 m.m2 }
adapt m (suc (suc (suc k))) = record { m0 = up 128 m.m0; m1 = up 64 m.m1; m2 = up 32 m.m2 }
