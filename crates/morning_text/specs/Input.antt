-- What `morning` reads, and what it then answers: "`wvpair`'s input with a 4-byte frame count" (Q5.6).
-- Assumes nothing.
use Rattle.std.specs.Prelude.{cond, List, ℕ, ◌*◌, ltb, pos, length, take, drop, replicate}
use Rattle.answers.specs.Guard.{unless_refused}
use Rattle.little_endian.specs.LittleEndian.{from_little_endian}
use Rattle.morning_page.specs.Entry.{PageTold, refuse_page, page_entry}
use Rattle.samples.specs.View.{ReadTold, read_entry}

-- 12 entropy bytes, and 4 of the frame count
abbrev pub head_bytes : ℕ
head_bytes = 16

-- the frame count, the low byte first, after the entropy bytes
abbrev pub frame_count : List ℕ → ℕ
frame_count input = from_little_endian (take 4 (drop 12 input))

-- the reading of the payload after both; a list of zeros, two for each frame, is lent
abbrev pub reading_of : List ℕ → ReadTold
reading_of input = read_entry (take 12 input) (drop head_bytes input) (frame_count input)
    (replicate (2 * frame_count input) (pos 0))

-- an input that is shorter than its head is refused with 1, as by `wvpair`; then a reading that is
-- refused tells its number; the page is that of all samples read
unfoldable pub input_entry : ℕ → List ℕ → List ℕ → PageTold
input_entry threshold input storage =
    cond (ltb (length input) head_bytes) (refuse_page storage 1)
    (unless_refused (reading_of input).refusal (refuse_page storage)
    (page_entry threshold (reading_of input).list storage))
