-- What is printed of an input, by the three tests on it.
-- Assumes nothing.
use mathlib.Core.Path.{◌≡◌, refl}
use mathlib.Core.Bool.{Bool, true, false, ◌||◌}
use mathlib.Core.List.{List}
use Prim.Native.Nat.{ℕ, ◌≤◌, ◌<◌}
use native.Mathlib.Omega.{arith}
use borrow.Author.Tests.{lt-ltb, le-ltb}
use lib.Dec.{ltb}
use lib.ListN.{length, length-drop}
use Rattle.wvpair_text.specs.Limits.{head_bytes, most_frames, most_payload_bytes, largest_input}
use Rattle.wvpair_lines.specs.Lines.{end_line}
use Rattle.wvpair_text.specs.Text.{frame_count, payload_of, over_limits, printed, reading_of, wvpair_text}

-- under 14 bytes
pub text-under : (input : List ℕ) → length input < head_bytes → wvpair_text input ≡ end_line 1 0
unfolding wvpair_text
text-under input h = rw (lt-ltb (length input) head_bytes h)

-- too many frames are over the limits
over_frames : (input : List ℕ) → most_frames < frame_count input → over_limits input ≡ true
unfolding over_limits
over_frames input h = rw (lt-ltb most_frames (frame_count input) h)

-- too many payload bytes are, however many frames
over-payload : (input : List ℕ) → most_payload_bytes < length (payload_of input) → over_limits input ≡ true
unfolding over_limits
over-payload input h = go (ltb most_frames (frame_count input))
  where
    go : (t : Bool) → t || ltb most_payload_bytes (length (payload_of input)) ≡ true
    go true = refl
    go false = lt-ltb most_payload_bytes (length (payload_of input)) h

-- over the limits
text-over : (input : List ℕ) → head_bytes ≤ length input → over_limits input ≡ true
    → wvpair_text input ≡ end_line 5 0
unfolding wvpair_text
text-over input h e = rw (le-ltb (length input) head_bytes h, e)

-- more than 1,024 frames
pub text_frames : (input : List ℕ) → head_bytes ≤ length input → most_frames < frame_count input
    → wvpair_text input ≡ end_line 5 0
text_frames input h l = text-over input h (over_frames input l)

-- more than 28,672 payload bytes
pub text-payload : (input : List ℕ) → head_bytes ≤ length input → largest_input < length input
    → wvpair_text input ≡ end_line 5 0
text-payload input h l = text-over input h (over-payload input (omega (arith, length-drop head_bytes input)))

-- within the limits
pub text-reading : (input : List ℕ) → head_bytes ≤ length input → frame_count input ≤ most_frames
    → length input ≤ largest_input → wvpair_text input ≡ printed (reading_of input)
unfolding wvpair_text over_limits
text-reading input h l m =
    let k : length (payload_of input) ≤ most_payload_bytes = omega (arith, length-drop head_bytes input) in
    rw (
      le-ltb (length input) head_bytes h,
      le-ltb most_frames (frame_count input) l,
      le-ltb most_payload_bytes
          (length (payload_of input)) k,
    )
