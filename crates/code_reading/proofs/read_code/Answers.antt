-- `code_reading::read_code` meets its contract: each way out is the definition, rewritten with the
-- parts that were read on the way.
-- Assumes nothing.
use native.Mathlib.Omega.{arith}
use mathlib.Core.Path.{sym, ◌∙◌}
use Prim.Native.Nat.{◌-◌}
use borrow.Author.Tests.{lt-ltb, le-ltb}
use Rattle.fields.specs.Code.{code_of}
use Rattle.bits.proofs.ReadLaws.{bits_lt}
use Rattle.code_reading.proofs.read_code.Goals as goal

pub returns-in_err-short : goal.returns-in_err-short
unfolding code_of
returns-in_err-short c = rw (c.from_residual.ensures, sym c.get_bits.ensures ∙ c.in_err-short.was)

pub returns-then-short-extras : goal.returns-then-short-extras
unfolding code_of
returns-then-short-extras c = rw (sym c.get_bits.ensures ∙ c.in_ok-short.was, lt-ltb _ _ c.if-short-extras.true)

pub returns-in_err-extra : goal.returns-in_err-extra
unfolding code_of
returns-in_err-extra c =
    rw (
      c.from_residual-in_err-extra.ensures,
      sym c.get_bits.ensures ∙ c.in_ok-short.was,
      le-ltb _ _ c.if-short-extras.false,
      sym c.get_bit.ensures ∙ c.in_err-extra.was,
    )

pub overflow_mul-result : goal.overflow_mul-result
overflow_mul-result c =
    omega (
      arith,
      bits_lt _ _ (c.args.width - 1) _ _ 30 (sym c.get_bits.ensures ∙ c.in_ok-short.was)
          (omega arith),
    )

pub overflow_add-result : goal.overflow_add-result
overflow_add-result c =
    omega (
      arith,
      bits_lt _ _ (c.args.width - 1) _ _ 30 (sym c.get_bits.ensures ∙ c.in_ok-short.was) (omega arith),
      bits_lt _ _ 1 _ _ 1 (sym c.get_bit.ensures ∙ c.in_ok-extra.was) (omega arith),
    )

pub returns : goal.returns
unfolding code_of
returns c =
    rw (
      sym c.get_bits.ensures ∙ c.in_ok-short.was,
      le-ltb _ _ c.if-short-extras.false,
      sym c.get_bit.ensures
          ∙ c.in_ok-extra.was,
    )
