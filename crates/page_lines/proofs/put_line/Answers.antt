-- `page_lines::put_line` meets its contract: five columns and a newline, one after the
-- other.
-- Assumes nothing.
use Prim.Native.Nat.{ℕ, ◌<◌}
use native.Mathlib.Omega.{arith}
use borrow.Author.Rules.{rules}
use mir.Syntax.{w32}
use mir.Val.{Fits}
use Rattle.decimal.proofs.ColumnLaws.{column-length}
use Rattle.page_lines.proofs.LineLaws.{Wide, narrow_wide, row_widths, row_put, row-length}
use Rattle.page_lines.proofs.put_line.Goals as goal

-- the numbers fit their columns
wide : (k lp rp lc rc : ℕ) → k < 1000000 → Fits w32 lp → Fits w32 rp → lc < 100000000
    → rc < 100000000 → Wide k lp rp lc rc
wide k lp rp lc rc n l r a b =
    narrow_wide k lp rp lc rc
    (record {
      number = n;
      left-peak = omega (arith, l.fits);
      right-peak = omega (arith, r.fits);
      left-clicks = a;
      right-clicks = b;
    })

pub put_column-peaks-requires-clause-wide : goal.put_column-peaks-requires-clause-wide
put_column-peaks-requires-clause-wide c =
    let w = wide c.args.k c.args.block.left_peak c.args.block.right_peak _ _
    c.requires.number (search rules) (search rules) c.requires.few.0 c.requires.few.1 in
    w.number

pub put_stems-clicks-requires-clause-room : goal.put_stems-clicks-requires-clause-room
put_stems-clicks-requires-clause-room c =
    let w = wide c.args.k c.args.block.left_peak c.args.block.right_peak _ _
    c.requires.number (search rules) (search rules) c.requires.few.0 c.requires.few.1 in
    omega (arith, c.requires.room, column-length 6 c.args.k w.number, c.put_column-peaks.ensures.place)

pub put_stems-clicks-requires-clause-wide : goal.put_stems-clicks-requires-clause-wide
put_stems-clicks-requires-clause-wide c =
    let w = wide c.args.k c.args.block.left_peak c.args.block.right_peak _ _
    c.requires.number (search rules) (search rules) c.requires.few.0 c.requires.few.1 in
    (w.left-peak, w.right-peak)

pub put_stems-newline-requires-clause-room : goal.put_stems-newline-requires-clause-room
put_stems-newline-requires-clause-room c =
    let w = wide c.args.k c.args.block.left_peak c.args.block.right_peak _ _
    c.requires.number (search rules) (search rules) c.requires.few.0 c.requires.few.1 in
    omega (
      arith,
      c.requires.room,
      column-length 6 c.args.k w.number,
      c.put_column-peaks.ensures.place,
      c.put_stems-clicks.ensures.width,
    )

pub put_stems-newline-requires-clause-wide : goal.put_stems-newline-requires-clause-wide
put_stems-newline-requires-clause-wide c =
    let w = wide c.args.k c.args.block.left_peak c.args.block.right_peak _ _
    c.requires.number (search rules) (search rules) c.requires.few.0 c.requires.few.1 in
    (w.left-clicks, w.right-clicks)

pub put_byte-requires : goal.put_byte-requires
put_byte-requires c =
    let w = wide c.args.k c.args.block.left_peak c.args.block.right_peak _ _
    c.requires.number (search rules) (search rules) c.requires.few.0 c.requires.few.1 in
    omega (
      arith,
      c.requires.room,
      column-length 6 c.args.k w.number,
      c.put_column-peaks.ensures.place,
      c.put_stems-clicks.ensures.width,
      c.put_stems-newline.ensures.width,
    )

pub returns-clause-text : goal.returns-clause-text
returns-clause-text c =
    row_put _ _ _ _ _ (omega (arith, c.requires.room)) c.put_column-peaks.ensures
    c.put_stems-clicks.ensures.text c.put_stems-newline.ensures.text c.put_byte.ensures

pub returns-clause-width : goal.returns-clause-width
returns-clause-width c =
    let w = wide c.args.k c.args.block.left_peak c.args.block.right_peak _ _
    c.requires.number (search rules) (search rules) c.requires.few.0 c.requires.few.1 in
    let text = row_put _ _ _ _ _ (omega (arith, c.requires.room)) c.put_column-peaks.ensures
    c.put_stems-clicks.ensures.text c.put_stems-newline.ensures.text c.put_byte.ensures in
    omega (arith, text.place, row-length _ _ _ _ _ (row_widths _ _ _ _ _ w))
