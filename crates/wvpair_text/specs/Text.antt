-- Document 01, "Proved cases" (C6, C7): what `wvpair` prints, as a function of its input bytes, and
-- what a lent buffer then holds.
-- Assumes nothing.
use Rattle.std.specs.Prelude.{◌≡◌, Bool, cond, ◌||◌, List, ℕ, ◌+◌, ◌*◌, ltb, pos, length, take, drop, get_or, replicate, Result}
use Rattle.std.specs.Result.{result_unwrap_or}
use Rattle.answers.specs.declared.Refusal.{Refusal}
use Rattle.answers.specs.Numbers.{outcome_number}
use Rattle.overlay.specs.Overlay.{overlay}
use Rattle.samples.specs.View.{ReadTold, read_entry}
use Rattle.wvpair_lines.specs.Lines.{end_line, report}
use Rattle.wvpair_text.specs.Limits.{head_bytes, most_frames, most_payload_bytes, largest_text}

-- document 01 (C6): "a 2-byte little-endian frame count", after the 12 entropy bytes
unfoldable pub frame_count : List ℕ → ℕ
frame_count input = get_or input 12 0 + 256 * get_or input 13 0

-- document 01 (C6): "then payload to the end"
abbrev pub payload_of : List ℕ → List ℕ
payload_of input = drop head_bytes input

-- document 01 (C6, C7): over its limits
unfoldable pub over_limits : List ℕ → Bool
over_limits input = ltb most_frames (frame_count input) || ltb most_payload_bytes (length (payload_of input))

-- the reading of an input: a list of zeros, two for each frame, is lent
abbrev pub reading_of : List ℕ → ReadTold
reading_of input = read_entry (take 12 input) (payload_of input) (frame_count input)
    (replicate (2 * frame_count input) (pos 0))

-- the samples written are a line for each whole frame, then comes the `end` line
abbrev pub printed : ReadTold → List ℕ
printed told = report (take told.written told.list) told.refusal told.bits

-- document 01 (C7): "Under 14 bytes it prints `end 1 bits 0`, over its limits `end 5 bits 0`"
unfoldable pub wvpair_text : List ℕ → List ℕ
wvpair_text input = cond (ltb (length input) head_bytes) (end_line 1 0)
    (cond (over_limits input) (end_line 5 0) (printed (reading_of input)))

-- a buffer shorter than that is refused with 11 and keeps its bytes; any other holds the text
-- first, and after it what it held
pub record TextIs (input before after : List ℕ) (r : Result ℕ Refusal) : Type 0 where
  pub outcome : outcome_number r ≡ cond (ltb (length before) largest_text) 11 0
  pub size : result_unwrap_or r 0 ≡ cond (ltb (length before) largest_text) 0 (length (wvpair_text input))
  pub bytes : after ≡ cond (ltb (length before) largest_text) before (overlay before 0 (wvpair_text input))
