-- `count_reading::read_counted` meets its contract: each way out is the definition, rewritten with
-- the tests and the field on the way.
-- Assumes nothing.
use borrow.Author.Rules.{rules}
use native.Mathlib.Omega.{arith}
use mathlib.Core.Path.{◌≡◌, sym, ◌∙◌}
use Prim.Native.Nat.{suc, ◌-◌}
use borrow.Author.Tests.{lt-ltb, le-ltb}
use lib.Pow.{pow_mono}
use Rattle.bits.specs.Bits.{bits_of}
use Rattle.bits.specs.Fields.{get_bits}
use Rattle.fields.specs.Counts.{counted}
use Rattle.std.specs.Prelude.{Some}
use Rattle.bits.proofs.BitLaws.{shl_one}
use Rattle.bits.proofs.ReadLaws.{bits_lt}
use Rattle.count_reading.proofs.read_counted.Goals as goal

pub returns-then-ones-lt2 : goal.returns-then-ones-lt2
unfolding counted
returns-then-ones-lt2 c = rw (lt-ltb _ _ c.if-ones-lt2.true)

pub returns-in_err-low : goal.returns-in_err-low
unfolding counted
returns-in_err-low c =
    rw (c.from_residual.ensures, le-ltb _ _ c.if-ones-lt2.false, sym c.get_bits.ensures ∙ c.in_err-low.was)

read : (c : goal.In_ok-low) →
    get_bits (bits_of c.args.payload.now) c.args.place (c.args.ones - 1)
    ≡ Some (c.in_ok-low.low, c.in_ok-low.next)
read c =
    sym c.get_bits.ensures ∙ c.in_ok-low.was

pub overflow_add-result : goal.overflow_add-result
overflow_add-result c =
    let m = c.args.ones - 1 in
    omega (
      arith,
      shl_one m 32 (omega arith),
      bits_lt _ _ m _ _ m (read (search rules)) (omega arith),
      pow_mono {i = suc m} {j = 32} (omega arith),
    )

pub returns : goal.returns
unfolding counted
returns c =
    rw (le-ltb _ _ c.if-ones-lt2.false, read c, shl_one (c.args.ones - 1) 32 (omega arith))
