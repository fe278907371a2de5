-- Each way by the law of the tests that lead to it.
-- Assumes nothing.
use mathlib.Core.Path.{◌≡◌, refl}
use native.Mathlib.Omega.{arith}
use Rattle.wvpair_lines.proofs.LineLaws.{end_short}
use Rattle.wvpair_text.proofs.TextLaws.{text-under, text_frames, text-payload, text-reading}
use Rattle.wvpair_lines.specs.Lines.{end_line}
use Rattle.wvpair_text.specs.Text.{wvpair_text}
use Rattle.wvpair_text.proofs.print_input.Goals.{then-frames-gt-MOST_FRAMES-via-then-frames-gt-MOST_FRAMES as by_frames}
use Rattle.wvpair_text.proofs.print_input.Goals.{then-frames-gt-MOST_FRAMES-via-else-frames-gt-MOST_FRAMES+then-input-gt-LARGEST_INPUT as by_payload}
use Rattle.wvpair_text.proofs.print_input.Goals as goal

pub put_end-requires : goal.put_end-requires
put_end-requires c =
    rw c.number.ensures
    (omega (arith, end_short 1 0 (omega arith) (λ h. refl) (omega arith)))

pub returns-then-input-lt-HEAD_BYTES : goal.returns-then-input-lt-HEAD_BYTES
returns-then-input-lt-HEAD_BYTES c =
    rw (text-under c.args.input.now (omega arith)) (rw c.number.ensures at c.put_end.ensures)

pub put_end-requires-then-frames-gt-MOST_FRAMES : goal.put_end-requires-then-frames-gt-MOST_FRAMES
put_end-requires-then-frames-gt-MOST_FRAMES c =
    rw c.number-then-frames-gt-MOST_FRAMES.ensures
    (omega (arith, end_short 5 0 (omega arith) (λ h. refl) (omega arith)))

pub returns-then-frames-gt-MOST_FRAMES : goal.returns-then-frames-gt-MOST_FRAMES
returns-then-frames-gt-MOST_FRAMES c =
    let input = c.args.input.now in
    let over : wvpair_text input ≡ end_line 5 0 =
    elim c.then-frames-gt-MOST_FRAMES.branch [
      | by_frames w ↦ text_frames input (omega arith) (omega arith)
      | by_payload w ↦ text-payload input (omega arith) (omega arith)
    ] in
    rw over (rw c.number-then-frames-gt-MOST_FRAMES.ensures at c.put_end-then-frames-gt-MOST_FRAMES.ensures)

pub returns : goal.returns
returns c =
    rw (text-reading c.args.input.now (omega arith) (omega arith) (omega arith))
    c.print_reading.ensures
