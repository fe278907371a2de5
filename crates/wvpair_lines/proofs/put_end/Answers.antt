-- Five writers, one behind the other.
-- Assumes nothing.
use mathlib.Core.Path.{ap}
use Prim.Native.Nat.{ℕ}
use native.Mathlib.Omega.{arith}
use lib.ListN.{length}
use Rattle.decimal.specs.Decimal.{decimal}
use Rattle.wvpair_lines.proofs.LineLaws.{end-put, end-length}
use Rattle.wvpair_lines.proofs.put_end.Goals as goal

pub put_text-first-requires : goal.put_text-first-requires
put_text-first-requires c =
    omega (arith, end-length c.args.refusal c.args.bits)

pub put_decimal-word-requires : goal.put_decimal-word-requires
put_decimal-word-requires c =
    omega (
      arith,
      c.requires,
      end-length c.args.refusal c.args.bits,
      ap (λ (n : ℕ). length (decimal n)) c.from.ensures,
    )

pub put_text-second-requires : goal.put_text-second-requires
put_text-second-requires c =
    omega (
      arith,
      c.requires,
      end-length c.args.refusal c.args.bits,
      ap (λ (n : ℕ). length (decimal n)) c.from.ensures,
    )

pub put_decimal-newline-requires : goal.put_decimal-newline-requires
put_decimal-newline-requires c =
    omega (
      arith,
      c.requires,
      end-length c.args.refusal c.args.bits,
      ap (λ (n : ℕ). length (decimal n)) c.from.ensures,
    )

pub put_byte-requires : goal.put_byte-requires
put_byte-requires c =
    omega (
      arith,
      c.requires,
      end-length c.args.refusal c.args.bits,
      ap (λ (n : ℕ). length (decimal n)) c.from.ensures,
    )

pub returns : goal.returns
returns c =
    end-put c.args.refusal c.args.bits (omega (arith, c.requires))
    c.put_text-first.ensures
    (rw c.from.ensures at c.put_decimal-word.ensures)
    c.put_text-second.ensures
    c.put_decimal-newline.ensures
    c.put_byte.ensures
