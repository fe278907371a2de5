-- `morning_page::page_refusal` meets its contract: one law for each of its four answers.
-- Assumes nothing.
use mathlib.Core.Path.{sym}
use Prim.Native.Nat.{◌*◌, ◌<◌, ◌≤◌}
use native.Mathlib.Omega.{arith}
use Rattle.answers.proofs.ListLaws.{frames_room, frames_none}
use Rattle.page_lines.specs.Page.{line_bytes, line_count}
use Rattle.page_lines.proofs.CountLaws.{lines-few}
use Rattle.morning_page.proofs.page_refusal.Goals as goal

pub overflow_mul-line_count : goal.overflow_mul-line_count
overflow_mul-line_count c =
    omega (arith, c.line_count.ensures, lines-few c.args.elements c.if-elements-gt-MAX_ELEMENTS.false)

pub returns-then-room-line_count : goal.returns-then-room-line_count
returns-then-room-line_count c =
    let short : c.args.room < line_bytes * line_count c.args.elements =
    rw (← c.line_count.ensures) c.if-room-line_count.true in
    sym (frames_room c.args.elements (line_bytes * line_count c.args.elements)
    c.args.room c.if-elements-gt-MAX_ELEMENTS.false c.if-elements-ne0.false short)

pub returns : goal.returns
returns c =
    let enough : line_bytes * line_count c.args.elements ≤ c.args.room =
    rw (← c.line_count.ensures) c.if-room-line_count.false in
    sym (frames_none c.args.elements (line_bytes * line_count c.args.elements)
    c.args.room (record
    { few = c.if-elements-gt-MAX_ELEMENTS.false; whole_frames = c.if-elements-ne0.false; enough = enough }))
