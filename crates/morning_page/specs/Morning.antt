-- Document 02 §5: what the page says, as statements over the definitions of page and entry (Q5.1,
-- Q5.2, Q5.5).
-- Assumes nothing.
use Rattle.std.specs.Prelude.{◌≡◌, List, [], ℕ, zero, suc, ◌+◌, ◌*◌, ◌%◌, ◌<◌, ◌≤◌, ℤ, pos}
use Rattle.std.specs.Prelude.{length, take, drop, get_or}
use Rattle.std.specs.Int.Signed.{mag}
use Rattle.answers.specs.Limits.{max_elements}
use Rattle.decimal.specs.Column.{read_column}
use Rattle.page_block.specs.Sound.{lefts, rights, clicks}
use Rattle.page_lines.specs.Page.{line_bytes, line_count, line_peak, line_clicks, line, page}
use Rattle.morning_page.specs.Entry.{PageTold, page_entry}

-- a recording: whole frames of 32-bit samples, as many as an entry takes
pub record Recording (samples : List ℤ) : Type 0 where
  pub few : length samples ≤ max_elements
  pub whole_frames : length samples % 2 ≡ 0
  pub bits_32 : (i : ℕ) → mag (get_or samples i (pos 0)) < 2147483648

-- f 0, f 1 and so on, k of them, summed
unfoldable pub sum_of : ℕ → (ℕ → ℕ) → ℕ
sum_of zero f = 0
sum_of (suc k) f = sum_of k f + f k

-- "The click columns summed equal the counts over the whole recording, whichever block a click falls
-- in" (Q5.5), for either channel and any number of frames
abbrev pub ClicksSummed : Type 0
ClicksSummed =
    (threshold : ℕ) (samples : List ℤ) → length samples % 2 ≡ 0
    → (sum_of (line_count (length samples)) (line_clicks threshold lefts samples)
    ≡ clicks threshold 0 (lefts samples))
    × (sum_of (line_count (length samples)) (line_clicks threshold rights samples)
    ≡ clicks threshold 0 (rights samples))

-- every line has 45 bytes (Q5.2)
abbrev pub LinesOf45 : Type 0
LinesOf45 =
    (threshold : ℕ) (samples : List ℤ) → Recording samples → (k : ℕ) → k < line_count (length samples)
    → length (line threshold samples k) ≡ line_bytes

-- the bytes of a page where line k stands
abbrev pub line_at : ℕ → List ℕ → List ℕ
line_at k text = take line_bytes (drop (line_bytes * k) text)

-- so the page has 45 bytes a line, and line k stands after k others
abbrev pub LinesStand : Type 0
LinesStand =
    (threshold : ℕ) (samples : List ℤ) → Recording samples
    → (length (page threshold samples) ≡ line_bytes * line_count (length samples))
    × ((k : ℕ) → k < line_count (length samples)
    → line_at k (page threshold samples) ≡ line threshold samples k)

-- the number in a line's column that begins at a place and is so wide
abbrev pub number_in : List ℕ → ℕ → ℕ → ℕ
number_in text at width = read_column (take width (drop at text))

-- what stands in the columns of line k is what was put there (Q5.5)
pub record ColumnsHold (threshold : ℕ) (samples : List ℤ) (k : ℕ) (text : List ℕ) : Type 0 where
  pub number : number_in text 0 6 ≡ k
  pub left-peak : number_in text 6 11 ≡ line_peak lefts samples k
  pub right-peak : number_in text 17 11 ≡ line_peak rights samples k
  pub left-clicks : number_in text 28 8 ≡ line_clicks threshold lefts samples k
  pub right-clicks : number_in text 36 8 ≡ line_clicks threshold rights samples k

-- the page that a call left in the lent storage
abbrev pub page_left : PageTold → List ℕ
page_left told = take told.written told.bytes

-- of every accepted call: each line of what it left holds its numbers, and the click columns, read
-- back and summed, are the clicks of the whole recording (Q5.5)
pub record ReadBack (threshold : ℕ) (samples : List ℤ) (text : List ℕ) : Type 0 where
  pub columns : (k : ℕ) → k < line_count (length samples) → ColumnsHold threshold samples k (line_at k text)
  pub left-clicks : sum_of (line_count (length samples)) (λ k. number_in (line_at k text) 28 8)
      ≡ clicks threshold 0 (lefts samples)
  pub right-clicks : sum_of (line_count (length samples)) (λ k. number_in (line_at k text) 36 8)
      ≡ clicks threshold 0 (rights samples)

abbrev pub PageReadBack : Type 0
PageReadBack =
    (threshold : ℕ) (samples : List ℤ) (storage : List ℕ) → Recording samples
    → (page_entry threshold samples storage).refusal ≡ 0
    → ReadBack threshold samples (page_left (page_entry threshold samples storage))

-- "No frames give an empty page" (Q5.1): the call is accepted and writes nothing
abbrev pub EmptyPage : Type 0
EmptyPage =
    (threshold : ℕ) (storage : List ℕ)
    → page_entry threshold [] storage ≡ record { refusal = 0; written = 0; bytes = storage }
