-- `int32_sample::shifted` meets its contract.
-- Assumes nothing.
use mir.Syntax.{w32}
use mir.ValLaws.{to_z-of_z}
use Prim.Native.Nat.{◌^◌}
use Rattle.wrapping.proofs.RangeLaws.{shift_floor, floor_fits}
use Rattle.int32_sample.specs.Sample.{above}
use Rattle.int32_sample.proofs.shifted.Goals as goal

pub returns : goal.returns
unfolding above
returns c = let m = 2 ^ c.args.count in rw (to_z-of_z w32 _ c.ranges.x, shift_floor _ m)
    (to_z-of_z w32 _ (floor_fits w32 _ m c.ranges.x))
