-- A code that was read is within its interval, whatever the payload holds.
-- Assumes nothing.
use mathlib.Core.Path.{◌≡◌, refl, sym}
use mathlib.Core.Bool.{Bool, true, false, cond}
use mathlib.Core.List.{List}
use Prim.Native.Nat.{ℕ, ◌+◌, ◌-◌, ◌*◌, ◌^◌, ◌≤◌, ◌<◌}
use native.Mathlib.Omega.{arith}
use borrow.Author.Tests.{ltb-true, ltb-false, eqb-false}
use lib.Dec.{ltb, eqb}
use Rattle.std.specs.Prelude.{Option, Some, None}
use Rattle.bits.specs.Fields.{and_then, get_bits}
use Rattle.bits.proofs.ReadLaws.{same-field, bits_lt}
use Rattle.fields.specs.Code.{bit_length, code_of, truncated_binary}
use Rattle.fields.proofs.LengthLaws.{long}

-- a long code is at most M
pub code-long-most : (b x s t M : ℕ) → M + x + 1 ≡ 2 * 2 ^ (b - 1) → s < 2 ^ (b - 1) → t < 2 → x ≤ s → 2 * s - x + t ≤ M
code-long-most b x s t M e hs ht h = omega arith

-- a code is at most M
pub code-most : (bits : List Bool) (p M c q : ℕ) → M < 2 ^ 32 → truncated_binary bits p M ≡ Some (c, q) → c ≤ M
unfolding truncated_binary code_of
code-most bits p M c q h e = go (eqb M 0) refl e
  where
    b : ℕ
    b = bit_length M

    x : ℕ
    x = 2 ^ b - M - 1

    last : (s n : ℕ) (f : Option (ℕ × ℕ)) → get_bits bits n 1 ≡ f → 0 < M → s < 2 ^ (b - 1) → x ≤ s → and_then f (λ t n. Some (2 * s - x + t, n)) ≡ Some (c, q) → c ≤ M
    last s n (Some (t, m)) f z hs hx e =
        let l = long M z h in
        let u = sym (same-field e).0 in
        omega (arith, code-long-most b x s t M (omega (arith, l.above, l.twice)) hs (bits_lt bits n 1 t m 1 f (omega arith)) hx)
    last s n None f z hs hx e = let z : ◌≡◌ {A = ℕ} 0 1 = cc in absurd (omega arith)

    test : (s n : ℕ) (t : Bool) → ltb s x ≡ t → 0 < M → s < 2 ^ (b - 1) → cond {A = Option (ℕ × ℕ)} t (Some (s, n)) (and_then (get_bits bits n 1) λ t m. Some (2 * s - x + t, m)) ≡ Some (c, q) → c ≤ M
    test s n true t z hs e = let l = long M z h in let u = sym (same-field e).0 in omega (arith, ltb-true s x t, l.below, l.twice)
    test s n false t z hs e = last s n (get_bits bits n 1) refl z hs (ltb-false s x t) e

    head : (f : Option (ℕ × ℕ)) → get_bits bits p (b - 1) ≡ f → 0 < M → and_then f (λ s n. cond {A = Option (ℕ × ℕ)} (ltb s x) (Some (s, n)) (and_then (get_bits bits n 1) λ t m. Some (2 * s - x + t, m))) ≡ Some (c, q) → c ≤ M
    head (Some (s, n)) f z e = test s n (ltb s x) refl z (bits_lt bits p (b - 1) s n (b - 1) f (omega arith)) e
    head None f z e = let z : ◌≡◌ {A = ℕ} 0 1 = cc in absurd (omega arith)

    go : (t : Bool) → eqb M 0 ≡ t → cond {A = Option (ℕ × ℕ)} t (Some (0, p)) (code_of bits p b x) ≡ Some (c, q) → c ≤ M
    go true t e = let u = sym (same-field e).0 in omega arith
    go false t e = let z = eqb-false M 0 t in head (get_bits bits p (b - 1)) refl (omega arith) e
