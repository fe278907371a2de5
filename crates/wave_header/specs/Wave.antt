-- Document 02 §1: which bytes are a sound file.
-- Assumes nothing.
use Rattle.std.specs.Prelude.{ℕ, ◌-◌, ◌%◌, Bool, true, false, ◌&&◌, List, [], ◌∷◌, leb, eqb}
use Rattle.std.specs.Prelude.{length, take, drop}
use Rattle.little_endian.specs.LittleEndian.{from_little_endian}
use Rattle.wave_file.specs.File.{header_bytes, rate_taken, wave_header}

-- two lists hold the same bytes
unfoldable pub alike : List ℕ → List ℕ → Bool
alike [] [] = true
alike (a ∷ xs) (b ∷ ys) = eqb a b && alike xs ys
alike [] (b ∷ ys) = false
alike (a ∷ xs) [] = false

-- the rate that a file's header holds: the four bytes from byte 24 on
abbrev pub file_rate : List ℕ → ℕ
file_rate file = from_little_endian (take 4 (drop 24 file))

-- "Import takes exactly this header with matching lengths": that of the file's rate and of the
-- bytes after it, the rate in its span, and whole frames of 4 bytes (Q1.4)
unfoldable pub is_wave : List ℕ → Bool
is_wave file =
    leb header_bytes (length file) && eqb ((length file - header_bytes) % 4) 0 && rate_taken (file_rate file)
    && alike (take header_bytes file) (wave_header (file_rate file) (length file - header_bytes))
