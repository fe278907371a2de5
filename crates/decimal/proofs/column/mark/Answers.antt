-- `decimal::column::mark` meets its contract.
-- Assumes nothing.
use Rattle.decimal.proofs.ColumnLaws.{mark_space, mark-digit}
use Rattle.decimal.proofs.column.mark.Goals as goal

pub returns-then-rest-eq0 : goal.returns-then-rest-eq0
returns-then-rest-eq0 c = mark_space _ c.if-rest-eq0.true

pub returns : goal.returns
returns c = mark-digit _ c.if-rest-eq0.false
