-- `medians::interval::sample_interval` meets its contract: each way out is the clause of its count,
-- by the law `interval_is`.
-- Assumes nothing.
use native.Mathlib.Omega.{arith}
use mathlib.Core.Path.{refl, sym, ◌∙◌}
use Rattle.entropy.specs.Medians.{medians_of}
use Rattle.medians.proofs.IntervalLaws.{base-many, width-many, interval_is}
use Rattle.medians.proofs.interval.sample_interval.Goals as goal

pub returns-in-0 : goal.returns-in-0
returns-in-0 c =
    rw c.in-0.is (interval_is (medians_of c.args.medians) 0 _ _ _ _ refl c.get_med.ensures.is
    (omega arith) c.cut.ensures.low c.cut.ensures.high)

pub returns-in-1 : goal.returns-in-1
returns-in-1 c =
    rw c.in-1.is (interval_is (medians_of c.args.medians) 1 _ _ _ _ c.get_med-in-1.ensures.is
    c.get_med-in-1-2.ensures.is (omega arith) c.cut-in-1.ensures.low c.cut-in-1.ensures.high)

pub returns-in_default : goal.returns-in_default
returns-in_default c =
    let k = c.args.ones_count in
    let m = medians_of c.args.medians in
    let w = c.get_med-width.ensures.is in
    let b = base-many m k _ _ _ _ (omega arith) c.get_med-in_default.ensures.is
    c.get_med-in_default-2.ensures.is c.from.ensures w in
    interval_is m k _ _ _ _ b (w ∙ sym (width-many m k (omega arith)))
    (omega arith) c.cut-in_default.ensures.low c.cut-in_default.ensures.high
