-- Document 02 §5: the page, as the list of its bytes.
-- Assumes nothing.
use Rattle.std.specs.Prelude.{List, [], ◌∷◌, ◌++◌, ℕ, zero, suc, ◌+◌, ◌*◌, ◌/◌, ℤ, length, take, drop}
use Rattle.decimal.specs.Column.{column}
use Rattle.page_block.specs.Sound.{lefts, rights, peak, clicks, last_distance}

-- "45 bytes in all" (Q5.2)
abbrev pub line_bytes : ℕ
line_bytes = 45

-- "a line per 1,024 frames, the last line covering what is left" (Q5.1): of so many samples
unfoldable pub line_count : ℕ → ℕ
line_count elements = (elements / 2 + 1023) / 1024

-- the 2,048 samples that line k covers, or those that are left ..
abbrev pub covered : ℕ → List ℤ → List ℤ
covered k samples = take 2048 (drop (2048 * k) samples)

-- .. and those before them
abbrev pub earlier : ℕ → List ℤ → List ℤ
earlier k samples = take (2048 * k) samples

-- a channel's peak in line k (Q5.3), the channel being `lefts` or `rights`
abbrev pub line_peak : (List ℤ → List ℤ) → List ℤ → ℕ → ℕ
line_peak channel samples k = peak (channel (covered k samples))

-- its clicks there: the previous sample is found "across block edges"; "the first sample has a
-- previous distance of 0" (Q5.4)
abbrev pub line_clicks : ℕ → (List ℤ → List ℤ) → List ℤ → ℕ → ℕ
line_clicks threshold channel samples k =
    clicks threshold (last_distance 0 (channel (earlier k samples))) (channel (covered k samples))

-- "block number from 0 (6 wide), left peak (11), right peak (11), left clicks (8), right clicks (8),
-- then a newline" (Q5.2)
unfoldable pub row : ℕ → ℕ → ℕ → ℕ → ℕ → List ℕ
row k leftPeak rightPeak leftClicks rightClicks =
    column 6 k ++ (column 11 leftPeak ++ (column 11 rightPeak ++ (column 8 leftClicks
    ++ (column 8 rightClicks ++ (10 ∷ [])))))

-- line k of the page
unfoldable pub line : ℕ → List ℤ → ℕ → List ℕ
line threshold samples k =
    row k (line_peak lefts samples k) (line_peak rights samples k)
    (line_clicks threshold lefts samples k) (line_clicks threshold rights samples k)

-- the first k lines
unfoldable pub lines : ℕ → List ℤ → ℕ → List ℕ
lines threshold samples zero = []
lines threshold samples (suc k) = lines threshold samples k ++ line threshold samples k

-- the whole page
unfoldable pub page : ℕ → List ℤ → List ℕ
page threshold samples = lines threshold samples (line_count (length samples))
