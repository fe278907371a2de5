-- `field_writing::gather_ones` meets its contract.
-- Assumes nothing.
use mathlib.Core.Path.{◌≡◌, sym, ap, ◌∙◌}
use Prim.Native.Nat.{ℕ, ◌+◌, ◌-◌, ◌*◌, ◌%◌, ◌^◌, ◌<◌}
use native.Mathlib.Omega.{arith}
use native.Mathlib.Nat.{mod-eq_of_lt}
use Rattle.bits.specs.Bits.{low}
use Rattle.bits.specs.Fields.{unary_field}
use Rattle.bits.proofs.BitLaws.{length-low, num-low, shl_one}
use Rattle.bits.proofs.RoundTrip.{length-unary}
use Rattle.fields.proofs.WrittenLaws.{unary-num, Joined, joined}
use borrow.Author.Rules.{rules}
use Rattle.field_writing.proofs.gather_ones.Goals as goal
use Rattle.field_writing.proofs.gather_ones.Goals.{Start}

one : (n : ℕ) → n < 16 → 1 * 2 ^ n % 2 ^ 64 ≡ 2 ^ n
one n h = shl_one n 64 (omega arith)

-- ones and a zero below, the word's other bits above
whole : (c : Start) → Joined (unary_field c.args.ones) (low c.args.rest.count c.args.rest.value)
    (1 * 2 ^ c.args.ones % 2 ^ 64 - 1)
    (c.args.ones + 1) c.args.rest.value
whole c =
    joined (unary_field c.args.ones) (low c.args.rest.count c.args.rest.value)
    (1 * 2 ^ c.args.ones % 2 ^ 64 - 1)
    (c.args.ones + 1) c.args.rest.value
    (rw (one c.args.ones (omega arith)) (unary-num c.args.ones))
    (sym (length-unary c.args.ones))
    (sym (num-low c.args.rest.count c.args.rest.value ∙ mod-eq_of_lt c.requires.value))
    (omega (arith, length-unary c.args.ones, length-low c.args.rest.count c.args.rest.value))

pub returns : goal.returns
returns c =
    let w = whole (search rules) in
    record {
      value-is = w.number;
      count-is =
          ap (λ (n : ℕ). c.args.ones + 1 + n) (sym (length-low c.args.rest.count c.args.rest.value)) ∙ w.size;
    }
