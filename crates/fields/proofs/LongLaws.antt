-- How long the fields of a word are at the most.
-- Assumes nothing.
use mathlib.Core.Path.{◌≡◌, refl}
use mathlib.Core.Bool.{Bool, true, false, cond}
use mathlib.Core.List.{[], ◌++◌}
use Prim.Native.Nat.{ℕ, ◌+◌, ◌-◌, ◌*◌, ◌/◌, ◌^◌, ◌≤◌, ◌<◌}
use native.Mathlib.Omega.{arith}
use borrow.Author.Tests.{ltb-true, ltb-false, eqb-false}
use lib.Dec.{ltb, eqb}
use lib.ListN.{length, length-append}
use Rattle.bits.specs.Bits.{low}
use Rattle.bits.specs.Fields.{unary_field}
use Rattle.fields.specs.Code.{bit_length}
use Rattle.fields.specs.Written.{run_field, prefix_field, code_bits, code_field}
use Rattle.bits.proofs.BitLaws.{length-low}
use Rattle.fields.proofs.LengthLaws.{long, long_le}
use Rattle.bits.proofs.RoundTrip.{length-unary}

-- a run length of w bits takes 2w bits at the most, and 0 takes one
pub run_long : (n w : ℕ) → 0 < w → n < 2 ^ w → n < 2 ^ 32 → length (run_field n) ≤ 2 * w
unfolding run_field
run_long n w p h f = go (ltb n 2) refl
  where
    go : (t : Bool) → ltb n 2 ≡ t
        → length (cond t (unary_field n) (unary_field (bit_length n) ++ low (bit_length n - 1) n)) ≤ 2 * w
    go true e = omega (arith, length-unary n, ltb-true n 2 e)
    go false e =
        let two = ltb-false n 2 e in
        let b = bit_length n in
        let l = long n (omega arith) f in
        omega (
          arith,
          length-append (unary_field b) (low (b - 1) n),
          length-unary b,
          length-low (b - 1) n,
          long_le n b w l h,
          l.some,
        )

-- a run length of 0 takes one bit
pub run-zero-long : length (run_field 0) ≡ 1
unfolding run_field unary_field
run-zero-long = refl

-- a prefix takes 81 bits at the most
pub prefix-long : (v : ℕ) → v < 2 ^ 32 → length (prefix_field v) ≤ 81
unfolding prefix_field
prefix-long v h = go (ltb v 16) refl
  where
    go : (t : Bool) → ltb v 16 ≡ t → length (cond t (unary_field v) (unary_field 16 ++ run_field (v - 16))) ≤ 81
    go true e = omega (arith, length-unary v, ltb-true v 16 e)
    go false e =
        omega (
          arith,
          length-append (unary_field 16) (run_field (v - 16)),
          length-unary 16,
          run_long (v - 16) 32 (omega arith) (omega arith) (omega arith),
        )

-- a code takes no more bits than its interval's last code has
pub code-long : (M c w : ℕ) → M < 2 ^ w → M < 2 ^ 32 → length (code_field M c) ≤ w
unfolding code_field code_bits
code-long M c w h f = go (eqb M 0) refl
  where
    b : ℕ
    b = bit_length M

    bits : (x : ℕ) (t : Bool) → 0 < b → b ≤ w
        → length (cond t (low (b - 1) c) (low (b - 1) ((c + x) / 2) ++ low 1 (c + x))) ≤ w
    bits x true p l = omega (arith, length-low (b - 1) c)
    bits x false p l =
        omega (
          arith,
          length-append (low (b - 1) ((c + x) / 2)) (low 1 (c + x)),
          length-low (b - 1) ((c + x) / 2),
          length-low 1 (c + x),
        )

    go : (t : Bool) → eqb M 0 ≡ t → length (cond t [] (code_bits b (2 ^ b - M - 1) c)) ≤ w
    go true e = omega arith
    go false e =
        let z = eqb-false M 0 e in
        let l = long M (omega arith) f in
        bits (2 ^ b - M - 1) (ltb c (2 ^ b - M - 1)) l.some (long_le M b w l h)
