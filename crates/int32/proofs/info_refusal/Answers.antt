-- `int32::info_refusal` meets its contract: each test in its turn.
-- Assumes nothing.
use native.Mathlib.Omega.{arith}
use Rattle.int32.specs.Info.{Fields}
use Rattle.int32.proofs.InfoLaws.{sent-above, zeros-above, ones_above, dups-above, many-samples}
use Rattle.int32.proofs.InfoLaws.{info_none}
use Rattle.int32.proofs.info_refusal.Goals as goal

pub returns-then-info-gt-MAX_BITS : goal.returns-then-info-gt-MAX_BITS
returns-then-info-gt-MAX_BITS c = sent-above _ _ (omega (arith, c.if-info-gt-MAX_BITS.true))

pub returns-then-info-gt-MAX_BITS-2 : goal.returns-then-info-gt-MAX_BITS-2
returns-then-info-gt-MAX_BITS-2 c = zeros-above _ _ (omega (arith, c.if-info-gt-MAX_BITS-2.true))

pub returns-then-info-gt-MAX_BITS-3 : goal.returns-then-info-gt-MAX_BITS-3
returns-then-info-gt-MAX_BITS-3 c = ones_above _ _ (omega (arith, c.if-info-gt-MAX_BITS-3.true))

pub returns-then-info-gt-MAX_BITS-4 : goal.returns-then-info-gt-MAX_BITS-4
returns-then-info-gt-MAX_BITS-4 c = dups-above _ _ (omega (arith, c.if-info-gt-MAX_BITS-4.true))

pub returns-then-samples-gt-MAX_ELEMENTS : goal.returns-then-samples-gt-MAX_ELEMENTS
returns-then-samples-gt-MAX_ELEMENTS c =
    let fields : Fields c.args.info = record {
      sent = omega (arith, c.if-info-gt-MAX_BITS.false);
      zeros = omega (arith, c.if-info-gt-MAX_BITS-2.false);
      ones = omega (arith, c.if-info-gt-MAX_BITS-3.false);
      dups = omega (arith, c.if-info-gt-MAX_BITS-4.false);
    } in
    many-samples _ _ fields c.if-samples-gt-MAX_ELEMENTS.true

pub returns : goal.returns
returns c =
    let fields : Fields c.args.info = record {
      sent = omega (arith, c.if-info-gt-MAX_BITS.false);
      zeros = omega (arith, c.if-info-gt-MAX_BITS-2.false);
      ones = omega (arith, c.if-info-gt-MAX_BITS-3.false);
      dups = omega (arith, c.if-info-gt-MAX_BITS-4.false);
    } in
    info_none _ _ fields c.if-samples-gt-MAX_ELEMENTS.false
