-- Document 02 §6: the redundancy setting, and what it puts in below a sample (Q6.2, Q6.4).
-- Assumes nothing.
use Rattle.std.specs.Prelude.{◌≡◌, Bool, true, cond, ◌||◌, ℕ, zero, suc, ◌-◌, ◌^◌, ◌≤◌, ◌<◌, eqb, ℤ, pos, ◌*ℤ◌}
use Rattle.std.specs.Int.{w32}
use Rattle.std.proofs.Common.{SFits}
use Rattle.wrapping.specs.Wrap.{wrap32}
use Rattle.int32_sample.specs.Sample.{below, low_bits, above}

-- which bits are put in below every sample, and how many: zeros, ones, or copies of its lowest bit
pub data Setting : Type 0 where
  zeros : ℕ → Setting
  ones : ℕ → Setting
  dups : ℕ → Setting

-- "zeros, ones or dups, the first that isn't 0"; where all are 0, no copies
abbrev pub setting : ℕ → ℕ → ℕ → Setting
setting (suc z) o d = zeros (suc z)
setting zero (suc o) d = ones (suc o)
setting zero zero d = dups d

-- how many bits a setting puts in
abbrev pub width : Setting → ℕ
width (zeros k) = k
width (ones k) = k
width (dups k) = k

-- k ones, as a number
abbrev pub all_ones : ℕ → ℕ
all_ones k = 2 ^ k - 1

-- k copies of the lowest bit of x, as a number
abbrev pub copies : ℕ → ℤ → ℕ
copies k x = cond (eqb (low_bits 1 x) 0) 0 (all_ones k)

-- a sample with the bits of the setting put in (Q6.2)
abbrev pub reinsert : Setting → ℤ → ℤ
reinsert (zeros k) x = below k 0 x
reinsert (ones k) x = below k (all_ones k) x
reinsert (dups k) x = below k (copies k x) x

-- the test on the low bits of a sample that a setting may have made: zeros, ones, or k + 1 bits that
-- are alike (Q6.4)
abbrev pub reinsertable : Setting → ℤ → Bool
reinsertable (zeros k) y = eqb (low_bits k y) 0
reinsertable (ones k) y = eqb (low_bits k y) (all_ones k)
reinsertable (dups k) y = eqb (low_bits (suc k) y) 0 || eqb (low_bits (suc k) y) (all_ones (suc k))

-- the same bits by whether the sample is even: those below an even one, and those below an odd one
abbrev pub even_bits : Setting → ℕ
even_bits (zeros k) = 0
even_bits (ones k) = all_ones k
even_bits (dups k) = 0

abbrev pub odd_bits : Setting → ℕ
odd_bits (zeros k) = 0
odd_bits (ones k) = all_ones k
odd_bits (dups k) = all_ones k

-- a sample of 32 bits that the setting turns into y
pub record Source (s : Setting) (y : ℤ) : Type 0 where
  pub sample : ℤ
  pub fits : SFits w32 sample
  pub image : reinsert s sample ≡ y

-- the test holds exactly of those that have one (Q6.4)
abbrev pub TestIsImage : Type 0
TestIsImage =
    (s : Setting) (y : ℤ) → width s ≤ 31 → SFits w32 y
    → (Source s y → reinsertable s y ≡ true) × (reinsertable s y ≡ true → Source s y)

-- no bit is lost where x is shifted left by k: it is x times 2 to the k without being kept to 32 bits
abbrev pub Keeps : ℕ → ℤ → Type 0
Keeps k x = wrap32 (x *ℤ pos (2 ^ k)) ≡ x *ℤ pos (2 ^ k)

-- bits put in and taken out again leave the sample exactly where it lost none (Q6.5)
abbrev pub PutInTakenOut : Type 0
PutInTakenOut =
    (k n : ℕ) (x : ℤ) → k ≤ 31 → n < 2 ^ k
    → (Keeps k x → above k (below k n x) ≡ x) × (above k (below k n x) ≡ x → Keeps k x)
