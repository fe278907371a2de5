-- What the code's array of the header's fields stands for: numbers of four bytes each.
-- Assumes nothing.
-- ---- for the code alone
use Rattle.std.specs.Prelude.{ℕ, ◌+◌, ◌*◌, List, [], ◌∷◌, ◌++◌}
use Rattle.little_endian.specs.LittleEndian.{little_endian}

-- RIFF, the length, WAVE, fmt, its length, format and channels, rate, bytes a second, bytes a frame
-- and bits a sample, data, its length
abbrev pub header_words : ℕ → ℕ → List ℕ
header_words rate size =
    1179011410 ∷ (36 + size) ∷ 1163280727 ∷ 544501094 ∷ 16 ∷ 131073 ∷ rate ∷
    (4 * rate) ∷ 1048580 ∷ 1635017060 ∷ size ∷ []

-- their bytes
unfoldable pub words_bytes : List ℕ → List ℕ
words_bytes [] = []
words_bytes (word ∷ words) = little_endian 4 word ++ words_bytes words
