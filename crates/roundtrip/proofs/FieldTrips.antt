-- A run length, a prefix and a code that stand at a place are read as their values, and the place
-- after them.
-- Assumes nothing.
use mathlib.Core.Path.{◌≡◌, refl, ap, ap₂, ◌∙◌}
use mathlib.Core.Bool.{Bool, true, false, cond}
use mathlib.Core.List.{List, [], ◌++◌}
use Prim.Native.Nat.{ℕ, ◌+◌, ◌-◌, ◌*◌, ◌/◌, ◌%◌, ◌^◌, ◌≤◌, ◌<◌}
use native.Mathlib.Omega.{arith}
use native.Mathlib.Nat.{mod-eq_of_lt, lt_of_not-le, not-le_of_lt}
use borrow.Author.Tests.{lt-ltb, le-ltb, le-leb, ne_eqb, ltb-true, ltb-false, eqb-true, eqb-false}
use lib.Arith.{digits_mod}
use lib.Pow.{pow_mono}
use lib.Dec.{ltb, eqb}
use lib.ListN.{length, length-append}
use Rattle.std.specs.Prelude.{Option, Some, Ok}
use Rattle.bits.specs.Bits.{low}
use Rattle.bits.specs.Fields.{unary, unary_field}
use Rattle.bits.proofs.BitLaws.{length-low}
use Rattle.bits.proofs.RoundTrip.{At, at_first, at_second, low-at, unary-at}
use Rattle.fields.specs.Counts.{counted, run_length, escaped, prefix}
use Rattle.fields.specs.Code.{bit_length, code_of, truncated_binary}
use Rattle.fields.proofs.LengthLaws.{long, long_le}
use Rattle.fields.specs.Written.{run_field, prefix_field, code_bits, code_field}

-- the top bit and the bits under it
top_bit : (P n : ℕ) → P ≤ n → n < 2 * P → P + n % P ≡ n
top_bit P n l h =
    let e : n ≡ 1 * P + (n - P) = omega arith in
    let m : n % P ≡ n - P = ap (λ (x : ℕ). x % P) e ∙ digits_mod 1 (omega arith) in
    omega arith

-- a field that was read: its value, and the place after it
abbrev read : ℕ → ℕ → Option (ℕ × ℕ)
read v q = Some (v, q)

-- what a reader finds at a run length: a count, and then the number
pub record Counted (bits : List Bool) (p n : ℕ) : Type 0 where
  pub c : ℕ
  pub q : ℕ
  pub few : c < 33
  pub one : unary bits p ≡ Some (c, q)
  pub two : counted bits q c ≡ Some (n, p + length (run_field n))

-- so it is at a run length that stands there
pub counted-at : {bits : List Bool} {p : ℕ} (n : ℕ) → n < 2 ^ 32 → At bits p (run_field n) → Counted bits p n
unfolding run_field counted
counted-at {bits} {p} n h a = go (ltb n 2) refl a
  where
    go : (t : Bool) → ltb n 2 ≡ t → At bits p (cond t (unary_field n) (unary_field (bit_length n) ++ low (bit_length n - 1) n)) → Counted bits p n
    go true e a = record {
      c = n;
      q = p + length (unary_field n);
      few = omega (arith, ltb-true n 2 e);
      one = unary-at n a;
      two = rw e;
    }
    go false e a =
        let two : 2 ≤ n = ltb-false n 2 e in
        let b = bit_length n in
        let l = long n (omega arith) h in
        let most : b ≤ 32 = long_le n b 32 l h in
        let q = p + length (unary_field b) in
        let least : 2 ≤ b = lt_of_not-le (λ (g : b ≤ 1). not-le_of_lt l.above (omega (arith, pow_mono {i = b} {j = 1} g))) in
        let f = at_first (unary_field b) (low (b - 1) n) a in
        let g = at_second (unary_field b) (low (b - 1) n) a in
        record {
          c = b;
          q = q;
          few = omega arith;
          one = unary-at b f;
          two =
              rw (le-ltb b 2 least, low-at (b - 1) n g, e)
              (ap₂ read (top_bit (2 ^ (b - 1)) n l.below (omega (arith, l.above, l.twice)))
              (omega (arith, length-append (unary_field b) (low (b - 1) n), length-low (b - 1) n)));
        }

-- a run length is read back
pub run_at : {bits : List Bool} {p : ℕ} (n : ℕ) → n < 2 ^ 32 → At bits p (run_field n) → run_length bits p ≡ Some (n, p + length (run_field n))
unfolding run_length
run_at {bits} {p} n h a = let r = counted-at n h a in rw (r.one, lt-ltb r.c 33 r.few) r.two

-- a prefix is read back
pub prefix-at : {bits : List Bool} {p : ℕ} (v : ℕ) → v < 2 ^ 32 → At bits p (prefix_field v) → prefix bits p ≡ Ok (v, p + length (prefix_field v))
unfolding prefix_field prefix escaped
prefix-at {bits} {p} v h a = go (ltb v 16) refl a
  where
    go : (t : Bool) → ltb v 16 ≡ t → At bits p (cond t (unary_field v) (unary_field 16 ++ run_field (v - 16))) → prefix bits p ≡ Ok (v, p + length (prefix_field v))
    go true e a = rw (unary-at v a, e)
    go false e a =
        let f = at_first (unary_field 16) (run_field (v - 16)) a in
        let g = at_second (unary_field 16) (run_field (v - 16)) a in
        let r = counted-at (v - 16) (omega arith) g in
        let s : 16 + (v - 16) ≡ v = omega (arith, ltb-false v 16 e) in
        rw (unary-at 16 f, r.one, ne_eqb r.c 33 (λ z. omega (arith, r.few)), le-ltb 33 r.c (omega (arith, r.few)), r.two, s, le-leb v 4294967295 (omega arith), e)
        (ap (λ (q : ℕ). Ok (v, q)) (omega (arith, length-append (unary_field 16) (run_field (v - 16)))))

-- ---- the code inside an interval

-- a code is read back, b and x being its interval's
pub code_bits-at : {bits : List Bool} {p : ℕ} (b x c : ℕ) → x ≤ 2 ^ (b - 1) → c + x < 2 * 2 ^ (b - 1) → At bits p (code_bits b x c)
    → code_of bits p b x ≡ Some (c, p + length (code_bits b x c))
unfolding code_bits code_of
code_bits-at {bits} {p} b x c hx hc a = go (ltb c x) refl a
  where
    go : (t : Bool) → ltb c x ≡ t → At bits p (cond t (low (b - 1) c) (low (b - 1) ((c + x) / 2) ++ low 1 (c + x)))
        → code_of bits p b x ≡ Some (c, p + length (code_bits b x c))
    go true e a =
        let h : c < 2 ^ (b - 1) = omega (arith, ltb-true c x e) in
        rw (low-at (b - 1) c a, mod-eq_of_lt h, e) (ap (read c) (omega (arith, length-low (b - 1) c)))
    go false e a =
        let s = (c + x) / 2 in
        let l = ltb-false c x e in
        let h : s < 2 ^ (b - 1) = omega arith in
        let f = at_first (low (b - 1) s) (low 1 (c + x)) a in
        let g = rw length-low at (at_second (low (b - 1) s) (low 1 (c + x)) a) in
        rw (low-at (b - 1) s f, mod-eq_of_lt h, le-ltb s x (omega arith), low-at 1 (c + x) g, e)
        (ap₂ read (omega arith) (omega (arith, length-append (low (b - 1) s) (low 1 (c + x)), length-low (b - 1) s, length-low 1 (c + x))))

-- a code is read back, M being the last code of its interval
pub code_at : {bits : List Bool} {p : ℕ} (M c : ℕ) → M < 2 ^ 32 → c ≤ M → At bits p (code_field M c)
    → truncated_binary bits p M ≡ Some (c, p + length (code_field M c))
unfolding code_field truncated_binary
code_at {bits} {p} M c h l a = go (eqb M 0) refl a
  where
    go : (t : Bool) → eqb M 0 ≡ t → At bits p (cond t [] (code_bits (bit_length M) (2 ^ bit_length M - M - 1) c))
        → truncated_binary bits p M ≡ Some (c, p + length (code_field M c))
    go true e a = let z = eqb-true M 0 e in rw e (ap₂ read (omega arith) (omega arith))
    go false e a =
        let z = eqb-false M 0 e in
        let g = long M (omega arith) h in
        rw e (code_bits-at (bit_length M) (2 ^ bit_length M - M - 1) c (omega arith) (omega arith) a)
