-- `threshold::threshold_of` meets its contract.
-- Assumes nothing.
use mathlib.Core.Path.{sym, ◌∙◌}
use native.Mathlib.Omega.{arith}
use borrow.Author.Tests.{eqb-true, eqb-false}
use Rattle.threshold.proofs.ThresholdLaws.{digit_low, typed_other, typed_more}
use Rattle.threshold.proofs.ThresholdLaws.{typed_empty, typed_all}
use Rattle.threshold.proofs.threshold_of.Goals as goal

pub returns-then-not-is_digit : goal.returns-then-not-is_digit
returns-then-not-is_digit c =
    typed_other _ _ _ c.loop-byte-test.true c.loop-byte.invariant
    (sym c.is_digit.ensures ∙ c.if-not-is_digit.true)

pub overflow_sub-byte : goal.overflow_sub-byte
overflow_sub-byte c = (digit_low _ (sym c.is_digit.ensures ∙ c.if-not-is_digit.false)).0

pub loop-byte-preserved : goal.loop-byte-preserved
loop-byte-preserved c =
    let d = c.from.ensures in
    rw d (typed_more _ _ _ c.loop-byte-test.true c.loop-byte.invariant
    (sym c.is_digit.ensures ∙ c.if-not-is_digit.false)
    (omega arith))

pub returns-then-is_empty : goal.returns-then-is_empty
returns-then-is_empty c = typed_empty _ (eqb-true _ _ (sym c.if-is_empty.ensures))

pub returns-else-is_empty : goal.returns-else-is_empty
returns-else-is_empty c =
    let some = eqb-false _ _ (sym c.if-is_empty.ensures) in
    typed_all _ _ _ c.loop-byte-test.false (omega (arith, some)) c.loop-byte.invariant
