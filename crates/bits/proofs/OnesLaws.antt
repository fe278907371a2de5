-- Ones counted by the language's trailing zeros, and what the count of a window says of the ones
-- that stand at its place.
-- Assumes nothing.
use mathlib.Core.Path.{◌≡◌, refl, sym, ap, ap₂, ◌∙◌}
use mathlib.Core.Bool.{Bool, true, false, cond}
use mathlib.Core.List.{List, [], ◌∷◌, ◌++◌}
use Prim.Native.Nat.{ℕ, zero, suc, ◌+◌, ◌-◌, ◌*◌, ◌/◌, ◌%◌, ◌^◌, ◌≤◌, ◌<◌}
use native.Mathlib.Nat.{pow-suc, lt_of_lt_of_le}
use native.Mathlib.Decide.{dec_lt}
use native.Mathlib.Omega.{arith}
use lib.Count.{count_trailing_zeros, under}
use lib.Dec.{eqb}
use lib.ListN.{length, take, drop, length-append, length-drop}
use lib.Pow.{pow_mono}
use lib.Seq.{drop-drop}
use Rattle.bits.specs.Bits.{bit_of, low, num, ones}
use Rattle.bits.specs.BitByBit.{BitByBit, one_more}
use Rattle.bits.specs.Fields.{get_bits, unary, and_then}
use Rattle.bits.specs.Window.{Window}
use Rattle.std.specs.Prelude.{Option, Some, None}
use Rattle.bits.proofs.BitLaws.{length-low, low-shifted}
use Rattle.bits.proofs.ReadLaws.{same-field, bits-yes, bits_no, unary-yes, unary_no, unary-missing}

-- ---- the ones of joined bits

-- no more than there are bits
pub ones_le : (a : List Bool) → ones a ≤ length a
unfolding ones
ones_le [] = omega arith
ones_le (false ∷ a) = omega arith
ones_le (true ∷ a) = omega (arith, ones_le a)

-- a zero among the first bits ends them
ones-first : (a b : List Bool) → ones a < length a → ones (a ++ b) ≡ ones a
unfolding ones
ones-first [] b h = absurd (omega arith)
ones-first (false ∷ a) b h = refl
ones-first (true ∷ a) b h = ap suc (ones-first a b (omega arith))

-- where the first are all ones, those behind count on
ones-on : (a b : List Bool) → length a ≤ ones a → ones (a ++ b) ≡ length a + ones b
unfolding ones
ones-on [] b h = omega arith
ones-on (false ∷ a) b h = absurd (omega arith)
ones-on (true ∷ a) b h = omega (arith, ones-on a b (omega arith))

-- zeros behind count nothing
ones-zeros : (a : List Bool) (i : ℕ) → ones (a ++ low i 0) ≡ ones a
unfolding ones low
ones-zeros [] zero = refl
ones-zeros [] (suc i) = refl
ones-zeros (false ∷ a) i = refl
ones-zeros (true ∷ a) i = ap suc (ones-zeros a i)

-- ---- the language's count

-- where the lowest bit is r the complement has 1 - r: a one is passed, a zero stops the count
under_bit : (r : ℕ) (l : List Bool) → r < 2 → under (1 - r) (ones l) ≡ ones (bit_of r ∷ l)
unfolding ones
under_bit zero l h = refl
under_bit (suc zero) l h = refl
under_bit (suc (suc r)) l h = absurd (omega arith)

-- y is x's complement below 2 p: its lowest bit is the other one, its half the complement of x's half
-- below p
complement_low : (p x y : ℕ) → y + 1 + x ≡ 2 * p → y % 2 ≡ 1 - x % 2
complement_low p x y e = omega arith

complement_half : (p x y : ℕ) → y + 1 + x ≡ 2 * p → y / 2 ≡ p - 1 - x / 2
complement_half p x y e = omega arith

-- the trailing zeros of x's complement in w bits are the ones at the low end of x
pub trailing_ones : (w x : ℕ) → x < 2 ^ w → count_trailing_zeros w (2 ^ w - 1 - x) ≡ ones (low w x)
unfolding count_trailing_zeros low ones
trailing_ones zero x h = refl
trailing_ones (suc w) x h =
    let y = 2 ^ suc w - 1 - x in
    let e : y + 1 + x ≡ 2 * 2 ^ w = omega (arith, pow-suc 2 w) in
    let m = complement_low (2 ^ w) x y e in
    let d = complement_half (2 ^ w) x y e in
    rw (m, d, trailing_ones w (x / 2) (omega (arith, pow-suc 2 w)))
    (under_bit (x % 2) (low w (x / 2)) (omega arith))

-- ---- the ones of a window

-- what n ones at the low end of a window of j bits at p say of the ones from p on
pub record Counted (bits : List Bool) (p j n : ℕ) : Type 0 where
  pub within : n ≤ j
  pub left : length (drop p bits) ≡ j + length (drop (p + j) bits)
  pub stop : n < j → ones (drop p bits) ≡ n
  pub on : (n < j → ⊥) → ones (drop p bits) ≡ j + ones (drop (p + j) bits)

-- so it is where the language counts them, in w bits
pub counted : (bits : List Bool) (p j w x : ℕ) → Window bits p j x → j ≤ w
    → Counted bits p j (count_trailing_zeros w (2 ^ w - 1 - x))
counted bits p j w x v h =
    let a = low j x in
    let l = length-low j x in
    let e : w ≡ j + (w - j) = omega arith in
    let n : count_trailing_zeros w (2 ^ w - 1 - x) ≡ ones a =
    trailing_ones w x (lt_of_lt_of_le v.small (pow_mono h)) ∙ ap (λ (m : ℕ). ones (low m x)) e
    ∙ ap ones (low-shifted j (w - j) x v.small) ∙ ones-zeros a (w - j) in
    rw n (record {
      within = omega (arith, ones_le a);
      left =
          ap length v.stands ∙ length-append a (drop (p + j) bits)
          ∙ ap (λ (m : ℕ). m + length (drop (p + j) bits)) l;
      stop = λ s. ap ones v.stands ∙ ones-first a (drop (p + j) bits) (omega arith);
      on =
          λ s. ap ones v.stands ∙ ones-on a (drop (p + j) bits) (omega (arith, s))
          ∙ ap (λ (m : ℕ). m + ones (drop (p + j) bits)) l;
    })

-- ---- counting on

-- from at up to p stand ones only
pub record Passed (bits : List Bool) (at p : ℕ) : Type 0 where
  pub since : at ≤ p
  pub left : at + length (drop at bits) ≡ p + length (drop p bits)
  pub ones_are : at + ones (drop at bits) ≡ p + ones (drop p bits)

-- none at first
pub passed_none : (bits : List Bool) (at : ℕ) → Passed bits at at
passed_none bits at = record { since = omega arith; left = refl; ones_are = refl }

-- a window of ones is passed
pub passed_on : {bits : List Bool} {at p j n : ℕ} (q : ℕ) → Passed bits at p → Counted bits p j n
    → (n < j → ⊥) → q ≡ p + j → Passed bits at q
passed_on {bits} {at} {p} {j} {n} q d c h e = rw e (record {
  since = omega (arith, d.since);
  left = omega (arith, d.left, c.left);
  ones_are = omega (arith, d.ones_are, c.on h);
})

-- a window with a zero ends the count
pub passed-stop : {bits : List Bool} {at p j n : ℕ} → Passed bits at p → Counted bits p j n → n < j
    → unary bits at ≡ Some (p + n - at, p + n + 1)
passed-stop {bits} {at} {p} {j} {n} d c h =
    let z = c.stop h in
    unary-yes bits at (omega (arith, d.since, d.left, d.ones_are, c.left))
    ∙ ap₂ (λ (v q : ℕ). Some (v, q)) (omega (arith, d.since, d.ones_are)) (omega (arith, d.since, d.ones_are))

-- at the payload's end no zero was found
pub passed-end : {bits : List Bool} {at p : ℕ} → Passed bits at p → length (drop p bits) ≡ 0
    → unary bits at ≡ None
passed-end {bits} {at} {p} d h = unary_no bits at (omega (arith, d.since, d.left, d.ones_are))

-- a count from p on and the ones passed before it are the count from at on, which ends inside the
-- payload
pub record Whole (bits : List Bool) (at p n q : ℕ) : Type 0 where
  pub inside : at + (p - at + n) < length bits
  pub same : unary bits at ≡ Some (p - at + n, q)

pub passed-whole : {bits : List Bool} {at p n q : ℕ} → Passed bits at p → unary bits p ≡ Some (n, q)
    → Whole bits at p n q
passed-whole {bits} {at} {p} {n} {q} d e = go (dec_lt (ones (drop p bits)) (length (drop p bits)))
  where
    go : Dec (ones (drop p bits) < length (drop p bits)) → Whole bits at p n q
    go (yes h) =
        let f : ◌≡◌ {A = Option (ℕ × ℕ)} (Some (ones (drop p bits), p + ones (drop p bits) + 1)) (Some (n, q)) =
        sym (unary-yes bits p h) ∙ e in
        let s = same-field f in
        let a : ones (drop p bits) ≡ n = s.0 in
        let b : p + ones (drop p bits) + 1 ≡ q = s.1 in
        record {
          inside = omega (arith, d.since, length-drop p bits);
          same =
              unary-yes bits at (omega (arith, d.left, d.ones_are))
              ∙ ap₂ (λ (v q : ℕ). Some (v, q)) (omega (arith, d.since, d.ones_are)) (omega (arith, d.ones_are));
        }
    go (no h) =
        let f : ◌≡◌ {A = Option (ℕ × ℕ)} None (Some (n, q)) = sym (unary_no bits p (omega arith)) ∙ e in
        let z : ◌≡◌ {A = ℕ} 0 1 = cc in absurd (omega arith)

-- where none is found from p on, none is from at on
pub passed-missing : {bits : List Bool} {at p : ℕ} → Passed bits at p → unary bits p ≡ None
    → unary bits at ≡ None
passed-missing {bits} {at} {p} d e =
    unary_no bits at (omega (arith, d.since, d.left, d.ones_are, unary-missing bits p e))

-- ---- bit by bit

-- where a one stands at p, the count is one more than from the next place on
one_more_lem : (bits : List Bool) (p : ℕ) (t : List Bool) → drop p bits ≡ true ∷ t
    → unary bits p ≡ one_more (unary bits (p + 1))
unfolding ones
one_more_lem bits p t e = go (dec_lt (ones (drop (p + 1) bits)) (length (drop (p + 1) bits)))
  where
    d : drop (p + 1) bits ≡ t
    d = sym (drop-drop 1 p bits) ∙ ap (drop 1) e

    o : ones (drop p bits) ≡ 1 + ones (drop (p + 1) bits)
    o = ap ones e ∙ omega (arith, ap ones d)

    l : length (drop p bits) ≡ 1 + length (drop (p + 1) bits)
    l = ap length e ∙ omega (arith, ap length d)

    go : Dec (ones (drop (p + 1) bits) < length (drop (p + 1) bits))
        → unary bits p ≡ one_more (unary bits (p + 1))
    go (yes h) =
        rw (unary-yes bits (p + 1) h, unary-yes bits p (omega (arith, o, l)))
        (ap₂ (λ (v q : ℕ). Some (v, q)) (omega (arith, o)) (omega (arith, o)))
    go (no h) = rw (unary_no bits (p + 1) (omega arith), unary_no bits p (omega (arith, o, l)))

-- Q3.1: every count is that of counting bit by bit
pub bit_by_bit : BitByBit
unfolding ones num
bit_by_bit bits p = go (drop p bits) refl
  where
    go : (l : List Bool) → drop p bits ≡ l
        → unary bits p ≡ and_then (get_bits bits p 1)
        (λ bit next. cond (eqb bit 0) (Some (0, next)) (one_more (unary bits next)))
    go [] e = rw (unary_no bits p (omega (arith, ap length e)), bits_no bits p 1 (omega (arith, ap length e)))
    go (false ∷ t) e =
        let v : num (take 1 (drop p bits)) ≡ 0 = ap (λ (x : List Bool). num (take 1 x)) e in
        rw (bits-yes bits p 1 (omega (arith, ap length e)), v)
        (unary-yes bits p (omega (arith, ap length e, ap ones e))
        ∙ ap₂ (λ (v q : ℕ). Some (v, q)) (ap ones e) (omega (arith, ap ones e)))
    go (true ∷ t) e =
        let v : num (take 1 (drop p bits)) ≡ 1 = ap (λ (x : List Bool). num (take 1 x)) e in
        rw (bits-yes bits p 1 (omega (arith, ap length e)), v) (one_more_lem bits p t e)
