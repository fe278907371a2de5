-- A sample with bits below it, and what is above and below in a sample. The two counts of a sample's
-- bits, k below and j above, make 32.
-- Assumes nothing.
use mathlib.Core.Path.{◌≡◌, sym, ap, subst, ◌∙◌}
use Prim.Native.Nat.{ℕ, suc, ◌+◌, ◌-◌, ◌*◌, ◌/◌, ◌%◌, ◌^◌, ◌≤◌, ◌<◌}
use native.Mathlib.Nat.{add-mul, suc-mul, mul-mod_left, mod-lt}
use native.Mathlib.Omega.{arith}
use lib.Arith.{digits_lt, digits_div, digits_mod}
use lib.IntN.{ℤ, pos, negsuc, neg_ℤ, ◌+ℤ◌, ◌*ℤ◌, +ℤ_idr, *ℤ-one}
use lib.Pow.{pow-add, pow_pos, shl-shr, shr_lt, mod-pow-add, mod-mod-pow, split, high, low}
use mir.Syntax.{w32}
use mir.Val.{SFits}
use Rattle.wrapping.specs.Wrap.{low32, wrap32, floor_div}
use Rattle.wrapping.proofs.WrapLaws.{sub_cases, low32-add, low32_mul, low32_wrap, wrap_id, wrap_fits}
use Rattle.wrapping.proofs.RangeLaws.{floor_fits}
use Rattle.int32_sample.specs.Sample.{below, low_bits, above}

-- ---- a product and a rest, by the sign

-- a negative number and one that does not reach over 0
neg_sum : (t b n : ℕ) → t ≡ suc (n + b) → neg_ℤ (pos t) +ℤ pos b ≡ negsuc n
neg_sum t b n e = rw e
    (sub_cases b (suc (n + b)) (λ z. z ≡ negsuc n)
    (λ h. let q : suc (n + b) - suc b ≡ n = omega arith in ap negsuc q) (λ h. absurd (omega arith)))

-- below a negative number the rest counts from the other end
pub sum_neg : (a m n : ℕ) → n < m → negsuc a *ℤ pos m +ℤ pos n ≡ negsuc (a * m + (m - 1 - n))
sum_neg a m n h = neg_sum (suc a * m) n (a * m + (m - 1 - n)) (suc-mul a m ∙ omega arith)

-- a product and a rest, divided again
pub floor_sum : (x : ℤ) (m n : ℕ) → n < m → floor_div (x *ℤ pos m +ℤ pos n) m ≡ x
floor_sum (pos a) m n h = ap pos (digits_div a h)
floor_sum (negsuc a) m n h =
    let l : m - 1 - n < m = omega arith in
    ap (λ (z : ℤ). floor_div z m) (sum_neg a m n h) ∙ ap negsuc (digits_div a l)

-- ---- how many bits are above k of 32

pub above-count : (k : ℕ) → k ≤ 31 → 31 - k + 1 + k ≡ 32
above-count k h = omega arith

pub keep-count : (k : ℕ) → k ≤ 31 → 31 - k + k ≡ 31
keep-count k h = omega arith

-- ---- both fit 32 bits

pub below-fits : (k n : ℕ) (x : ℤ) → SFits w32 (below k n x)
unfolding below
below-fits k n x = wrap_fits _

pub above-fits : (k : ℕ) (y : ℤ) → SFits w32 y → SFits w32 (above k y)
unfolding above
above-fits k y h = floor_fits w32 y (2 ^ k) h

module _ (j k : ℕ) (e : j + k ≡ 32) where
  -- 2 to the 32
  whole : 2 ^ (j + k) ≡ 4294967296
  whole = ap (λ (n : ℕ). 2 ^ n) e

  -- ---- the pattern of a sample with bits below it

  -- a pattern that is shifted left loses its high bits
  pub shifted_mod : (a : ℕ) → a * 2 ^ k % 4294967296 ≡ a % 2 ^ j * 2 ^ k
  shifted_mod a =
      ap (λ (m : ℕ). a * 2 ^ k % m) (sym whole) ∙ mod-pow-add (a * 2 ^ k) j k
      ∙ rw (shl-shr a k, mul-mod_left a (2 ^ k)) (omega arith)

  -- what is put below fills up to 32 bits
  filled_lt : (a n : ℕ) → n < 2 ^ k → a % 2 ^ j * 2 ^ k + n < 4294967296
  filled_lt a n h = subst (λ (m : ℕ). a % 2 ^ j * 2 ^ k + n < m) (sym (pow-add 2 j k) ∙ whole)
      (digits_lt (mod-lt a (pow_pos j)) h)

  pub below-pattern : (n : ℕ) (x : ℤ) → n < 2 ^ k → low32 (below k n x) ≡ low32 x % 2 ^ j * 2 ^ k + n
  unfolding below low32
  below-pattern n x h =
      let a = low32 x in
      let f = filled_lt a n h in
      low32_wrap (x *ℤ pos (2 ^ k) +ℤ pos n) ∙ low32-add (x *ℤ pos (2 ^ k)) (pos n)
      ∙ ap (λ (p : ℕ). (p + n % 4294967296) % 4294967296) (low32_mul x (2 ^ k) ∙ shifted_mod a) ∙ omega arith

  -- the bits that were put in are the low bits
  pub low_below : (n : ℕ) (x : ℤ) → n < 2 ^ k → low_bits k (below k n x) ≡ n
  unfolding low_bits
  low_below n x h = ap (λ (p : ℕ). p % 2 ^ k) (below-pattern n x h) ∙ low (low32 x % 2 ^ j) k h

  -- ---- a sample is what is above its low bits, and these

  -- the low bits of a complement
  comp_mod : (a : ℕ) → a < 4294967296 → (4294967295 - a) % 2 ^ k ≡ 2 ^ k - 1 - a % 2 ^ k
  comp_mod a h =
      let m = 2 ^ k in
      let q = a / m in
      let c = 2 ^ j - 1 - q in
      let ql : q < 2 ^ j = shr_lt j k (subst (λ (n : ℕ). a < n) (sym whole) h) in
      let s : c + suc q ≡ 2 ^ j = omega arith in
      let p : c * m + suc q * m ≡ 4294967296 = sym (add-mul c (suc q) m) ∙ ap (λ (n : ℕ). n * m) s
      ∙ sym (pow-add 2 j k) ∙ whole in
      let t : suc q * m ≡ q * m + m = suc-mul q m in
      let d : q * m + a % m ≡ a = split a k in
      let l : a % m < m = mod-lt a (pow_pos k) in
      let r : 4294967295 - a ≡ c * m + (m - 1 - a % m) = omega (arith, p, t, d, l) in
      let w : m - 1 - a % m < m = omega (arith, l) in
      ap (λ (n : ℕ). n % m) r ∙ digits_mod c w

  -- the low bits of the 32 low bits
  mod_low : (n : ℕ) → n % 4294967296 % 2 ^ k ≡ n % 2 ^ k
  mod_low n = ap (λ (m : ℕ). n % m % 2 ^ k) (sym whole) ∙ mod-mod-pow n j k

  pub apart : (y : ℤ) → above k y *ℤ pos (2 ^ k) +ℤ pos (low_bits k y) ≡ y
  unfolding above low_bits low32
  apart (pos n) = ap pos (ap (λ (l : ℕ). n / 2 ^ k * 2 ^ k + l) (mod_low n) ∙ split n k)
  apart (negsuc n) =
      let m = 2 ^ k in
      let l : n % m < m = mod-lt n (pow_pos k) in
      let c : (4294967295 - n % 4294967296) % m ≡ m - 1 - n % m =
      comp_mod (n % 4294967296) (omega arith) ∙ ap (λ (r : ℕ). m - 1 - r) (mod_low n) in
      let w : m - 1 - n % m < m = omega (arith, l) in
      let b : m - 1 - (m - 1 - n % m) ≡ n % m = omega (arith, l) in
      ap (λ (r : ℕ). negsuc (n / m) *ℤ pos m +ℤ pos r) c ∙ sum_neg (n / m) m (m - 1 - n % m) w
      ∙ ap negsuc (ap (λ (r : ℕ). n / m * m + r) b ∙ split n k)

  -- so putting its low bits below what is above them gives the sample back
  pub put_back : (y : ℤ) → SFits w32 y → below k (low_bits k y) (above k y) ≡ y
  unfolding below
  put_back y h = ap wrap32 (apart y) ∙ wrap_id y h

  -- the low bits are below 2 to their number
  pub low_lt : (y : ℤ) → low_bits k y < 2 ^ k
  unfolding low_bits
  low_lt y = mod-lt (low32 y) (pow_pos k)

  -- the pattern above the low bits
  pub above-pattern : (y : ℤ) → SFits w32 y → low32 y / 2 ^ k ≡ low32 (above k y) % 2 ^ j
  above-pattern y h =
      ap (λ (p : ℕ). p / 2 ^ k)
      (sym (ap low32 (put_back y h)) ∙ below-pattern (low_bits k y) (above k y) (low_lt y))
      ∙ high (low32 (above k y) % 2 ^ j) k (low_lt y)

-- no bits below a sample leave it as it is
pub below-nothing : (x : ℤ) → SFits w32 x → below 0 0 x ≡ x
unfolding below lib.IntN.one
below-nothing x h = ap wrap32 (+ℤ_idr (x *ℤ pos 1) ∙ *ℤ-one x) ∙ wrap_id x h
