-- `field_writing::gather_code` meets its contract.
-- Assumes nothing.
use mathlib.Core.Path.{◌≡◌, sym, ap, ◌∙◌}
use Prim.Native.Nat.{ℕ, ◌+◌, ◌-◌, ◌*◌, ◌%◌, ◌^◌, ◌≤◌, ◌<◌}
use native.Mathlib.Omega.{arith}
use lib.ListN.{length}
use lib.Pow.{pow_mono}
use native.Mathlib.Nat.{mod-eq_of_lt}
use Rattle.bits.specs.Bits.{low, num}
use Rattle.bits.proofs.BitLaws.{length-low, num-low}
use Rattle.fields.specs.Written.{code_bits, code_field}
use Rattle.fields.proofs.WrittenLaws.{Uniform, uniform, Joined, joined}
use Rattle.fields.proofs.LongLaws.{code-long}
use borrow.Author.Rules.{rules}
use Rattle.field_writing.proofs.gather_code.Goals as goal

-- what is known of the interval's bit length
parts : (c : goal.After-bit_length)
    → Uniform c.args.last c.args.code c.bit_length.result
parts c =
    uniform c.args.last c.args.code c.bit_length.result (omega arith)
    (omega arith) c.bit_length.ensures

shifted : (c : goal.After-bit_length)
    → 2 * 2 ^ (c.bit_length.result - 1) % 2 ^ 32 ≡ 2 ^ c.bit_length.result
shifted c = let u = parts (search rules) in omega (arith, pow_mono {i = c.bit_length.result} {j = 28} u.most)

pub overflow_sub-digits : goal.overflow_sub-digits
overflow_sub-digits c = let u = parts (search rules) in omega arith

pub overflow_shl-extras : goal.overflow_shl-extras
overflow_shl-extras c = let u = parts (search rules) in omega arith

pub overflow_sub-extras : goal.overflow_sub-extras
overflow_sub-extras c = let u = parts (search rules) in rw (shifted (search rules)) (omega arith)

pub overflow_sub-extras-2 : goal.overflow_sub-extras-2
overflow_sub-extras-2 c = let u = parts (search rules) in rw (shifted (search rules)) (omega arith)

pub code_count-count-requires : goal.code_count-count-requires
code_count-count-requires c = let u = parts (search rules) in omega arith

-- the code's bits are those of the definition
is_code : (c : goal.After-from-2) →
    let b = c.bit_length.result in
    code_bits (b - 1 + 1) (2 * 2 ^ (b - 1) % 2 ^ 32 - c.args.last - 1) c.args.code ≡ code_field c.args.last
    c.args.code
is_code c =
    let after-bit-length : goal.After-bit_length = search rules in
    let b = c.bit_length.result in
    let u = parts after-bit-length in
    let e : b - 1 + 1 ≡ b = omega arith in
    rw (shifted (after-bit-length), e) (sym u.is)

few : (c : goal.After-from-2) → c.code_count-count.result ≤ 28
few c =
    omega (
      arith,
      c.code_count-count.ensures,
      ap length (is_code (search rules)),
      code-long c.args.last c.args.code 28 (omega arith) (omega arith),
    )

whole : (c : goal.After-from-2) → Joined (code_field c.args.last c.args.code)
    (low 1 c.args.sign) c.from.result
    c.code_count-count.result c.from-2.result
whole c =
    let l : c.args.sign < 2 ^ 1 = omega arith in
    joined (code_field c.args.last c.args.code) (low 1 c.args.sign) c.from.result
    c.code_count-count.result c.from-2.result
    (c.from.ensures ∙ c.code_value-value.ensures ∙ ap num (is_code (search rules)))
    (c.code_count-count.ensures ∙ ap length (is_code (search rules)))
    (c.from-2.ensures ∙ sym (num-low 1 c.args.sign ∙ mod-eq_of_lt l))
    (omega (
      arith,
      length-low 1 c.args.sign,
      code-long c.args.last c.args.code 28 (omega arith)
          (omega arith),
    ))

pub overflow_shl-result : goal.overflow_shl-result
overflow_shl-result c = let j = whole (search rules) in omega (arith, few (search rules))

pub overflow_add-result : goal.overflow_add-result
overflow_add-result c = record { fits = (whole (search rules)).fits }

pub overflow_add-result-2 : goal.overflow_add-result-2
overflow_add-result-2 c = omega (arith, few (search rules))

pub returns : goal.returns
returns c =
    record {
      value-is = (whole (search rules)).number;
      count-is =
          ap (λ (n : ℕ). c.code_count-count.result + n) (sym (length-low 1 c.args.sign))
          ∙ (whole (search rules)).size;
    }

pub code_value-value-requires-clause-digits : goal.code_value-value-requires-clause-digits
code_value-value-requires-clause-digits c = let u = parts (search rules) in omega arith

pub code_value-value-requires-clause-extras : goal.code_value-value-requires-clause-extras
code_value-value-requires-clause-extras c = let u = parts (search rules) in rw
    (shifted (search rules)) u.extras

pub code_value-value-requires-clause-code : goal.code_value-value-requires-clause-code
code_value-value-requires-clause-code c = let u = parts (search rules) in rw (shifted (search rules)) u.sum
