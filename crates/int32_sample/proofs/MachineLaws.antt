-- What the machine's shifts and masks of a sample's 32 bits come to.
-- Assumes nothing.
use mathlib.Core.Path.{◌≡◌, sym, ap, ◌∙◌}
use Prim.Native.Nat.{ℕ, ◌+◌, ◌-◌, ◌*◌, ◌%◌, ◌^◌, ◌≤◌, ◌<◌}
use native.Mathlib.Nat.{lt_of_lt_of_le}
use lib.Bits.{bit_and, bit_or, and_mask, or_shifted}
use lib.IntN.{ℤ}
use lib.Pow.{pow_mono}
use mir.Syntax.{w32}
use mir.Val.{to_z, of_z, SFits}
use Rattle.wrapping.specs.Wrap.{low32, wrap32}
use Rattle.wrapping.proofs.WrapLaws.{low32_of, low32_wrap}
use Rattle.int32_sample.specs.Sample.{below, low_bits}
use Rattle.int32_sample.specs.Setting.{all_ones}
use Rattle.int32_sample.proofs.ShiftLaws.{above-count, below-pattern, shifted_mod, low_lt}

-- a number of at most 31 bits is a signed one
pub small : (k n : ℕ) → k ≤ 31 → n < 2 ^ k → n < 2147483648
small k n h l = lt_of_lt_of_le l (pow_mono {i = k} {j = 31} h)

module _ (k : ℕ) (h : k ≤ 31) where
  -- shifted left, with a number's bits in the free places
  pub joined : (x : ℤ) (n : ℕ) → SFits w32 x → n < 2 ^ k
      → to_z w32 (bit_or (of_z w32 x * 2 ^ k % 4294967296) n) ≡ below k n x
  unfolding below wrap32
  joined x n f l =
      let j = 31 - k + 1 in
      let a = low32 x in
      let p : of_z w32 x * 2 ^ k % 4294967296 ≡ a % 2 ^ j * 2 ^ k =
      ap (λ (m : ℕ). m * 2 ^ k % 4294967296) (sym (low32_of x f)) ∙ shifted_mod j k (above-count k h) a in
      ap (to_z w32) (ap (λ (m : ℕ). bit_or m n) p ∙ or_shifted (a % 2 ^ j) k n l
      ∙ sym (below-pattern j k (above-count k h) n x l) ∙ low32_wrap _)

  -- masked
  pub masked : (x : ℤ) (mask : ℕ) → SFits w32 x → mask ≡ all_ones k → bit_and (of_z w32 x) mask ≡ low_bits k x
  unfolding low_bits
  masked x mask f e = ap (bit_and (of_z w32 x)) e ∙ and_mask (of_z w32 x) k
      ∙ ap (λ (m : ℕ). m % 2 ^ k) (sym (low32_of x f))

  pub low_small : (x : ℤ) → low_bits k x < 2147483648
  low_small x = small k (low_bits k x) h (low_lt (31 - k + 1) k (above-count k h) x)
