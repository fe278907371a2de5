-- `decimal::column::put_front` meets its contract. The loop's invariant: the bytes from the place on
-- are laid.
-- Assumes nothing.
use mathlib.Core.Path.{refl}
use native.Mathlib.Omega.{arith}
use Rattle.decimal.proofs.ColumnLaws.{laid_more, laid-all}
use Rattle.decimal.proofs.column.put_front.Goals as goal

pub loop-place-preserved : goal.loop-place-preserved
loop-place-preserved c =
    laid_more _ _ _ _ _ _ _ _ _ c.requires.room c.loop-place-test.true c.loop-place.invariant refl c.mark.ensures

pub returns : goal.returns
returns c = laid-all _ _ _ _ _ _ _ (omega arith) c.loop-place.invariant
