-- `weights::apply_weight` meets its contract. Assumes nothing.
use Rattle.std.proofs.Common.{rules}
use mir.Syntax.{w32, w64}
use mir.ValLaws.{to_z-of_z}
use Rattle.wrapping.proofs.RangeLaws.{mul_fits64, widen, shift_floor, floor_fits}
use Rattle.weights.specs.Weights.{predict}
use Rattle.weights.proofs.PredictLaws.{biased_fits64}
use Rattle.weights.proofs.apply_weight.Goals as goal

pub returns : goal.returns
unfolding predict
returns c =
    let r = c.ranges in
    let fit = biased_fits64 _ _ r.weight r.source in
    rw (to_z-of_z w32 c.narrow.result (search rules), c.narrow.ensures, c.from.ensures, c.from-2.ensures, to_z-of_z w32 _ r.weight, to_z-of_z w32 _ r.source, to_z-of_z w64 _ (widen r.weight), to_z-of_z w64 _ (widen r.source), to_z-of_z w64 _ (mul_fits64 _ _ r.weight r.source), to_z-of_z w64 _ fit, shift_floor _ 1024, to_z-of_z w64 _ (floor_fits w64 _ 1024 fit))
