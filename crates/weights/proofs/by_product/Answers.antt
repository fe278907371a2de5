-- `weights::by_product` meets its contract. Assumes nothing.
use Rattle.std.proofs.Common.{rules}
use mir.Syntax.{w32, w64}
use mir.ValLaws.{to_z-of_z}
use Rattle.wrapping.proofs.RangeLaws.{mul_fits64, widen}
use Rattle.weights.proofs.SignLaws.{product}
use Rattle.weights.proofs.by_product.Goals as goal

pub returns : goal.returns
returns c =
    let r = c.ranges in
    rw (to_z-of_z w32 c.by_sign.result (search rules), c.by_sign.ensures, c.from.ensures, c.from-2.ensures, to_z-of_z w32 _ r.x, to_z-of_z w32 _ r.y, to_z-of_z w64 _ (widen r.x), to_z-of_z w64 _ (widen r.y), to_z-of_z w64 _ (mul_fits64 _ _ r.x r.y), to_z-of_z w32 _ r.up, to_z-of_z w32 _ r.down, to_z-of_z w32 _ r.still)
    (product c.args.x c.args.y _ _ _)
