-- `weights::update_weight` meets its contract. Assumes nothing.
use Rattle.std.proofs.Common.{rules}
use mir.Syntax.{w32, w64}
use mir.ValLaws.{to_z-of_z}
use Rattle.wrapping.proofs.RangeLaws.{widen}
use Rattle.wrapping.proofs.StdWrap.{sum-is, negation-is}
use Rattle.weights.proofs.UpdateLaws.{stepped}
use Rattle.weights.proofs.update_weight.Goals as goal

pub returns : goal.returns
returns c =
    let r = c.ranges in
    let f = c.by_sign-by_early.result in
    rw (
      sum-is c.args.weight c.by_sign-by_late.result r.weight (search rules),
      c.by_sign-by_late.ensures,
      to_z-of_z w32 c.wrapping_neg-2.result (search rules),
      c.wrapping_neg-2.ensures,
      to_z-of_z w32 f (search rules),
      negation-is f (search rules),
      c.by_sign-by_early.ensures,
      to_z-of_z w32 c.wrapping_neg.result (search rules),
      c.wrapping_neg.ensures,
      c.from.ensures,
      c.from-2.ensures,
      to_z-of_z w32 _ r.delta,
      negation-is _ r.delta,
      to_z-of_z w32 _ r.early,
      to_z-of_z w32 _ r.late,
      to_z-of_z w64 _ (widen r.early),
      to_z-of_z w64 _ (widen r.late),
    )
    (stepped c.args.weight c.args.delta c.args.late c.args.early r.weight r.delta)
