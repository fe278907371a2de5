-- `page_lines::put_stems` meets its contract: one column, and after it the other.
-- Assumes nothing.
use native.Mathlib.Omega.{arith}
use Rattle.decimal.proofs.ColumnLaws.{column-length}
use Rattle.decimal.proofs.PutLaws.{put_on}
use Rattle.page_lines.proofs.put_stems.Goals as goal

pub put_column-requires-clause-room : goal.put_column-requires-clause-room
put_column-requires-clause-room c =
    let left = column-length c.args.width c.args.left c.requires.wide.0 in
    omega (arith, c.requires.room, left, c.put_column-second.ensures.place)

pub returns-clause-text : goal.returns-clause-text
returns-clause-text c =
    put_on (omega (arith, c.requires.room)) c.put_column-second.ensures c.put_column.ensures

pub returns-clause-width : goal.returns-clause-width
returns-clause-width c =
    let left = column-length c.args.width c.args.left c.requires.wide.0 in
    let right = column-length c.args.width c.args.right c.requires.wide.1 in
    omega (arith, c.put_column-second.ensures.place, c.put_column.ensures.place, left, right)
