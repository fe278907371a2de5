-- A threshold, read digit by digit, and that every number of 32 bits reads back as itself.
-- Assumes nothing.
use mathlib.Core.Path.{◌≡◌, refl, sym, ap, ◌∙◌}
use mathlib.Core.Bool.{Bool, true, false, ◌&&◌, and-false, and_assoc}
use mathlib.Core.List.{List, [], ◌∷◌, ◌++◌}
use Prim.Native.Nat.{ℕ, ◌+◌, ◌*◌, ◌-◌, ◌/◌, ◌%◌, ◌≤◌, ◌<◌}
use native.Mathlib.Numerals.{add-one}
use native.Mathlib.Omega.{arith}
use borrow.Author.Tests.{lt-ltb, le-ltb, le-leb, leb-true}
use Rattle.std.specs.Prelude.{Option, Some, None}
use Rattle.std.specs.Char.{is_ascii_digit}
use Rattle.std.proofs.lemmas.Bool.{and_parts}
use lib.Dec.{ltb, leb}
use lib.ListN.{length, drop, get_or, drop_of_length-le}
use lib.Seq.{drop-cons}
use Rattle.decimal.specs.Decimal.{decimal, read_digits}
use Rattle.decimal.proofs.DecimalLaws.{by_tenths, decimal-one, decimal-more, decimal-some, decimal-back}
use Rattle.threshold.specs.Threshold.{is_digit, all_digits, is_threshold, threshold_in}

-- ---- one digit

pub digit-is : (c : ℕ) → is_ascii_digit c ≡ is_digit c
unfolding is_digit
digit-is c = refl

-- a digit is at least `0`, and at most `9`
pub digit_low : (c : ℕ) → is_digit c ≡ true → (48 ≤ c) × (c ≤ 57)
unfolding is_digit
digit_low c e = let b = and_parts (leb 48 c) (leb c 57) e in (leb-true 48 c b.0, leb-true c 57 b.1)

-- ---- the digits of a text

-- the digits from i on are left, after those of a number
pub record Typed (text : List ℕ) (value i : ℕ) : Type 0 where
  pub left : read_digits value (drop i text) ≡ read_digits 0 text
  pub digits : all_digits (drop i text) ≡ all_digits text
  pub small : value < 4294967296
  pub here : i ≤ length text

-- digits after a number never make it smaller
read-grows : (n : ℕ) (text : List ℕ) → n ≤ read_digits n text
unfolding read_digits
read-grows n [] = omega arith
read-grows n (c ∷ text) = omega (arith, read-grows (10 * n + (c - 48)) text)

module _ (text : List ℕ) where
  pub typed_none : Typed text 0 0
  typed_none = record { left = refl; digits = refl; small = omega arith; here = omega arith }

  -- the byte at i, and those after it
  text-on : (i : ℕ) → i < length text → drop i text ≡ get_or text i 0 ∷ drop (i + 1) text
  text-on i h = drop-cons text i 0 h ∙ ap (λ (n : ℕ). get_or text i 0 ∷ drop n text) (sym (add-one i))

  -- one digit more
  pub typed_more : (value i : ℕ) → i < length text → Typed text value i → is_digit (get_or text i 0) ≡ true
      → 10 * value + (get_or text i 0 - 48) < 4294967296
      → Typed text (10 * value + (get_or text i 0 - 48)) (i + 1)
  unfolding read_digits all_digits
  typed_more value i h t d l = record {
    left = sym (ap (read_digits value) (text-on i h)) ∙ t.left;
    digits = ap (λ (b : Bool). b && all_digits (drop (i + 1) text)) (sym d)
        ∙ sym (ap all_digits (text-on i h))
        ∙ t.digits;
    small = l;
    here = omega arith;
  }

  -- a text that is no threshold
  none_is : is_threshold text ≡ false → ◌≡◌ {A = Option ℕ} None (threshold_in text)
  none_is e = rw e

  -- a byte that is no digit
  pub typed_other : (value i : ℕ) → i < length text → Typed text value i → is_digit (get_or text i 0) ≡ false
      → ◌≡◌ {A = Option ℕ} None (threshold_in text)
  unfolding all_digits is_threshold
  typed_other value i h t d =
      let e : all_digits text ≡ false =
      sym t.digits ∙ ap all_digits (text-on i h)
      ∙ ap (λ (b : Bool). b && all_digits (drop (i + 1) text)) d in
      none_is (rw (e, and-false (ltb 0 (length text))))

  -- a number that is too large
  pub typed_large : (value i : ℕ) → i < length text → Typed text value i
      → 4294967296 ≤ 10 * value + (get_or text i 0 - 48)
      → ◌≡◌ {A = Option ℕ} None (threshold_in text)
  unfolding read_digits is_threshold
  typed_large value i h t l =
      let next = 10 * value + (get_or text i 0 - 48) in
      let e : read_digits next (drop (i + 1) text) ≡ read_digits 0 text =
      sym (ap (read_digits value) (text-on i h)) ∙ t.left in
      let large : 4294967296 ≤ read_digits 0 text = omega (arith, read-grows next (drop (i + 1) text)) in
      none_is (rw (
        le-ltb (read_digits 0 text) 4294967296 large,
        and-false (all_digits text),
        and-false
            (ltb 0 (length text)),
      ))

  pub too_large : (value i : ℕ) → Typed text value i → i < length text
      → 4294967296 ≤ 10 * value + (get_or text i 0 - 48) → threshold_in text ≡ None
  too_large value i t h l = sym (typed_large value i h t l)

  -- a text of digits and a small number is a threshold, but for the empty one
  pub typed_empty : length text ≡ 0 → ◌≡◌ {A = Option ℕ} None (threshold_in text)
  unfolding is_threshold
  typed_empty e = rw e

  pub typed_all : (value i : ℕ) → length text ≤ i → 0 < length text → Typed text value i
      → ◌≡◌ {A = Option ℕ} (Some value) (threshold_in text)
  unfolding is_threshold read_digits all_digits
  typed_all value i h some t =
      let none = drop_of_length-le text {i = i} h in
      let d : all_digits text ≡ true = sym t.digits ∙ ap all_digits none in
      let e : read_digits 0 text ≡ value = sym t.left ∙ ap (read_digits value) none in
      rw (lt-ltb 0 (length text) some, d, e, lt-ltb value 4294967296 t.small)

-- ---- what is typed is what was meant

-- a number in decimal is nothing but digits
digits-behind : (a b : List ℕ) → all_digits (a ++ b) ≡ (all_digits a && all_digits b)
unfolding all_digits
digits-behind [] b = refl
digits-behind (c ∷ a) b = ap (λ (t : Bool). is_digit c && t) (digits-behind a b)
    ∙ sym (and_assoc (is_digit c) (all_digits a) (all_digits b))

one-digit : (d : ℕ) → d < 10 → all_digits ((48 + d) ∷ []) ≡ true
unfolding all_digits is_digit
one-digit d h = rw (le-leb 48 (48 + d) (omega arith), le-leb (48 + d) 57 (omega arith))

decimal-digits : (n : ℕ) → all_digits (decimal n) ≡ true
decimal-digits =
    by_tenths (λ n. all_digits (decimal n) ≡ true) (λ n h. rw (decimal-one n h) (one-digit n h)) λ n h t.
    rw (
      decimal-more n h,
      digits-behind (decimal (n / 10)) ((48 + n % 10) ∷ []),
      t,
      one-digit (n % 10)
          (omega arith),
    )

-- the decimal text of every number of 32 bits is a threshold, and that number
pub typed_back : (n : ℕ) → n < 4294967296
    → (is_threshold (decimal n) ≡ true) × (read_digits 0 (decimal n) ≡ n)
unfolding is_threshold
typed_back n h = (
  rw (
    lt-ltb 0 (length (decimal n)) (decimal-some n),
    decimal-digits n,
    decimal-back n,
    lt-ltb n 4294967296 h,
  ),
  decimal-back n,
)
