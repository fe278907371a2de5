-- `morning_text::input_page` meets its contract: one law for each of its answers.
-- Assumes nothing.
use Rattle.morning_text.proofs.InputLaws.{input_short, input_frames}
use Rattle.morning_text.proofs.input_page.Goals as goal

pub returns-then-input-lt-HEAD_BYTES : goal.returns-then-input-lt-HEAD_BYTES
returns-then-input-lt-HEAD_BYTES c = input_short _ _ _ c.if-input-lt-HEAD_BYTES.true

pub returns-then-frames-gt-MAX_FRAMES : goal.returns-then-frames-gt-MAX_FRAMES
returns-then-frames-gt-MAX_FRAMES c =
    input_frames _ _ _ c.if-input-lt-HEAD_BYTES.false
    (rw (← c.frame_count-frames.ensures) c.if-frames-gt-MAX_FRAMES.true)
