-- `decimal::column::put_front` meets its contract. The loop's invariant: the bytes from the place on
-- are laid.
-- Assumes nothing.
use Rattle.decimal.proofs.ColumnLaws.{Laid}
use Rattle.decimal.proofs.column.put_front.Given as goal

abbrev pub invariant-loop-place : goal.invariant-loop-place
invariant-loop-place l = Laid l.initial.out l.out l.at l.width l.left l.place l.rest
