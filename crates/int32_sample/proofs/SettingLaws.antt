-- The bits of a setting by whether the sample is even, and the test on the low bits: it holds exactly
-- of the samples that have a source.
-- Assumes nothing.
use mathlib.Core.Path.{◌≡◌, refl, sym, ap, ap₂, subst, ◌∙◌}
use mathlib.Core.Bool.{Bool, true, false, cond, ◌||◌}
use Prim.Native.Nat.{ℕ, zero, suc, ◌+◌, ◌-◌, ◌*◌, ◌/◌, ◌%◌, ◌^◌, ◌<◌}
use native.Mathlib.Nat.{pow-suc, mod-lt}
use native.Mathlib.Numerals.{one-add}
use native.Mathlib.Omega.{arith}
use borrow.Author.Tests.{eq-eqb, ne_eqb, eqb-true, eqb-false}
use lib.Dec.{eqb}
use lib.IntN.{ℤ}
use lib.Pow.{pow_pos, ones_lt, mod-pow-add, mod-mod-pow, high}
use mir.Syntax.{w32}
use mir.Val.{SFits}
use Rattle.wrapping.specs.Wrap.{low32}
use Rattle.int32_sample.specs.Sample.{below, low_bits, above}
use Rattle.int32_sample.specs.declared.Redundancy.{Redundancy}
use Rattle.int32_sample.specs.Setting.{Setting, zeros, ones, dups, width, all_ones, even_bits}
use Rattle.int32_sample.specs.Setting.{odd_bits, reinsert, reinsertable, TestIsImage}
use Rattle.int32_sample.proofs.ShiftLaws.{below-nothing, above-count, above-fits, below-pattern}
use Rattle.int32_sample.proofs.ShiftLaws.{low_below, put_back, low_lt, above-pattern}

-- ---- by whether the sample is even

-- what a setting puts in below x
abbrev pub fill : Setting → ℤ → ℕ
fill s x = cond (eqb (low_bits 1 x) 0) (even_bits s) (odd_bits s)

either : (b : Bool) (n : ℕ) → cond b n n ≡ n
either true n = refl
either false n = refl

pub by_parity : (s : Setting) (x : ℤ) → reinsert s x ≡ below (width s) (fill s x) x
by_parity (zeros k) x = ap (λ (n : ℕ). below k n x) (sym (either (eqb (low_bits 1 x) 0) 0))
by_parity (ones k) x = ap (λ (n : ℕ). below k n x) (sym (either (eqb (low_bits 1 x) 0) (all_ones k)))
by_parity (dups k) x = refl

pub even_lt : (s : Setting) → even_bits s < 2 ^ width s
even_lt (zeros k) = pow_pos k
even_lt (ones k) = ones_lt k
even_lt (dups k) = pow_pos k

pub odd_lt : (s : Setting) → odd_bits s < 2 ^ width s
odd_lt (zeros k) = pow_pos k
odd_lt (ones k) = ones_lt k
odd_lt (dups k) = ones_lt k

choice_lt : (b : Bool) {m n p : ℕ} → m < p → n < p → cond b m n < p
choice_lt true h l = h
choice_lt false h l = l

pub fill_lt : (s : Setting) (x : ℤ) → fill s x < 2 ^ width s
fill_lt s x = choice_lt (eqb (low_bits 1 x) 0) (even_lt s) (odd_lt s)

-- a setting that puts in no bits leaves a sample as it is
pub reinsert-nothing : (s : Setting) (x : ℤ) → width s ≡ 0 → SFits w32 x → reinsert s x ≡ x
reinsert-nothing s x w h =
    let l : fill s x < 1 = subst (λ (k : ℕ). fill s x < 2 ^ k) w (fill_lt s x) in
    let z : fill s x ≡ 0 = omega (arith, l) in
    by_parity s x ∙ ap₂ (λ (k n : ℕ). below k n x) w z ∙ below-nothing x h

-- the bits of the setting that three fields make, as `redundancy_of` holds them
abbrev pub held : Setting → Redundancy
held s = record { count = width s; even = even_bits s; odd = odd_bits s }

-- ---- the test on the low bits

-- the lowest bit of what is above the low bits
module _ (i k : ℕ) (e : i + 1 + k ≡ 32) where
  pub bit_above : (y : ℤ) → SFits w32 y → low_bits 1 (above k y) ≡ low32 y / 2 ^ k % 2
  unfolding low_bits
  bit_above y h = sym (mod-mod-pow (low32 (above k y)) i 1)
      ∙ ap (λ (n : ℕ). n % 2) (sym (above-pattern (i + 1) k e y h))

  -- is that of the sample that bits were put in below
  pub bit_below : (n : ℕ) (x : ℤ) → n < 2 ^ k → low32 (below k n x) / 2 ^ k % 2 ≡ low_bits 1 x
  unfolding low_bits
  bit_below n x h =
      ap (λ (p : ℕ). p / 2 ^ k % 2) (below-pattern (i + 1) k e n x h)
      ∙ ap (λ (p : ℕ). p % 2) (high (low32 x % 2 ^ (i + 1)) k h)
      ∙ mod-mod-pow (low32 x) i 1

-- one more low bit
low-more : (k : ℕ) (y : ℤ) → low_bits (suc k) y ≡ low32 y / 2 ^ k % 2 * 2 ^ k + low_bits k y
unfolding low_bits
low-more k y = ap (λ (n : ℕ). low32 y % 2 ^ n) (sym (one-add k)) ∙ mod-pow-add (low32 y) 1 k

-- a bit and the bits below it are alike where these are copies of it
alike : (b p l : ℕ) → b < 2 → l < p → (eqb (b * p + l) 0 || eqb (b * p + l) (2 * p - 1)) ≡ eqb l
    (cond (eqb b 0) 0 (p - 1))
alike zero p l h w = go (eqb l 0) refl
  where
    z : 0 * p + l ≡ l
    z = omega arith

    f : l ≡ 2 * p - 1 → ⊥
    f g = absurd (omega (arith, g))

    go : (t : Bool) → eqb l 0 ≡ t → (eqb (0 * p + l) 0 || eqb (0 * p + l) (2 * p - 1)) ≡ eqb l 0
    go true q = rw (z, q)
    go false q = rw (z, q, ne_eqb l (2 * p - 1) f)
alike (suc zero) p l h w = go (eqb l (p - 1)) refl
  where
    z : 1 * p + l ≡ 0 → ⊥
    z g = absurd (omega (arith, g))

    go : (t : Bool) → eqb l (p - 1) ≡ t → (eqb (1 * p + l) 0 || eqb (1 * p + l) (2 * p - 1)) ≡ eqb l (p - 1)
    go true q =
        let e : l ≡ p - 1 = eqb-true _ _ q in
        let g : 1 * p + l ≡ 2 * p - 1 = omega (arith, e) in
        rw (ne_eqb (1 * p + l) 0 z, eq-eqb (1 * p + l) (2 * p - 1) g, q)
    go false q =
        let f : 1 * p + l ≡ 2 * p - 1 → ⊥ = λ g. let e : l ≡ p - 1 = omega (arith, g) in eqb-false _ _ q e in
        rw (ne_eqb (1 * p + l) 0 z, ne_eqb (1 * p + l) (2 * p - 1) f, q)
alike (suc (suc b)) p l h w = absurd (omega arith)

-- the low bits are those that belong below the rest
pub tested : (s : Setting) (i : ℕ) (y : ℤ) → i + 1 + width s ≡ 32 → SFits w32 y
    → reinsertable s y ≡ eqb (low_bits (width s) y) (fill s (above (width s) y))
tested (zeros k) i y e h = ap (eqb (low_bits k y)) (sym (either (eqb (low_bits 1 (above k y)) 0) 0))
tested (ones k) i y e h = ap (eqb (low_bits k y)) (sym (either (eqb (low_bits 1 (above k y)) 0) (all_ones k)))
tested (dups k) i y e h =
    let b = low32 y / 2 ^ k % 2 in
    let t : 2 ^ suc k ≡ 2 * 2 ^ k = pow-suc 2 k ∙ omega arith in
    rw (low-more k y, t, bit_above i k e y h)
    (alike b (2 ^ k) (low_bits k y) (mod-lt (low32 y / 2 ^ k) (omega arith)) (low_lt (i + 1) k e y))

-- what the test holds of comes back from what is above its low bits
pub comes_back : (s : Setting) (i : ℕ) (y : ℤ) → i + 1 + width s ≡ 32 → SFits w32 y
    → reinsertable s y ≡ true → reinsert s (above (width s) y) ≡ y
comes_back s i y e h t =
    let k = width s in
    let l : low_bits k y ≡ fill s (above k y) = eqb-true _ _ (sym (tested s i y e h) ∙ t) in
    by_parity s (above k y) ∙ ap (λ (n : ℕ). below k n (above k y)) (sym l) ∙ put_back (i + 1) k e y h

-- and it holds of whatever a setting made
pub made : (s : Setting) (i : ℕ) (x y : ℤ) → i + 1 + width s ≡ 32 → SFits w32 y → reinsert s x ≡ y
    → reinsertable s y ≡ true
made s i x y e h q =
    let k = width s in
    let n = fill s x in
    let b : below k n x ≡ y = sym (by_parity s x) ∙ q in
    let l : low_bits k y ≡ n = ap (low_bits k) (sym b) ∙ low_below (i + 1) k e n x (fill_lt s x) in
    let o : low_bits 1 (above k y) ≡ low_bits 1 x =
    bit_above i k e y h ∙ ap (λ (z : ℤ). low32 z / 2 ^ k % 2) (sym b) ∙ bit_below i k e n x (fill_lt s x) in
    let f : fill s (above k y) ≡ n = ap (λ (m : ℕ). cond (eqb m 0) (even_bits s) (odd_bits s)) o in
    tested s i y e h ∙ eq-eqb _ _ (l ∙ sym f)

pub test-is-image : TestIsImage
test-is-image s y w h =
    let e = above-count (width s) w in (
      λ x. made s (31 - width s) x.sample y e h x.image,
      λ t. record {
        sample = above (width s) y;
        fits = above-fits (width s) y h;
        image = comes_back s (31 - width s) y e h t;
      },
    )
