-- Document 02 §1: the sound file of a recording, as the list of its bytes.
-- Assumes nothing.
use Rattle.std.specs.Prelude.{ℕ, ◌+◌, ◌*◌, Bool, ◌&&◌, List, [], ◌∷◌, ◌++◌, leb, ℤ, length}
use Rattle.little_endian.specs.LittleEndian.{little_endian, signed_bytes}

-- "the 44-byte header" (Q1.1)
abbrev pub header_bytes : ℕ
header_bytes = 44

-- "over 524,332 bytes" (Q1.4): the header, and 2 bytes for each of 262,144 samples
abbrev pub max_file_bytes : ℕ
max_file_bytes = 524332

-- "The rate is 1 to 192,000" (Q1.3, Q1.4)
abbrev pub max_rate : ℕ
max_rate = 192000

abbrev pub rate_taken : ℕ → Bool
rate_taken rate = leb 1 rate && leb rate max_rate

-- the four letters of each name, in ASCII
abbrev pub name_riff : List ℕ
name_riff = 82 ∷ 73 ∷ 70 ∷ 70 ∷ []

abbrev pub name_wave : List ℕ
name_wave = 87 ∷ 65 ∷ 86 ∷ 69 ∷ []

-- with a space behind its three letters
abbrev pub name_fmt : List ℕ
name_fmt = 102 ∷ 109 ∷ 116 ∷ 32 ∷ []

abbrev pub name_data : List ℕ
name_data = 100 ∷ 97 ∷ 116 ∷ 97 ∷ []

-- "a 16-byte fmt chunk, format 1, two channels, 16 bits, rate as given" (Q1.1): its length, format,
-- channels, rate, bytes a second, bytes a frame, bits a sample
unfoldable pub fmt_chunk : ℕ → List ℕ
fmt_chunk rate =
    name_fmt ++ little_endian 4 16 ++ little_endian 2 1 ++ little_endian 2 2 ++ little_endian 4 rate
    ++ little_endian 4 (4 * rate) ++ little_endian 2 4 ++ little_endian 2 16

-- "the 44-byte header (RIFF, WAVE, a 16-byte fmt chunk, .., data chunk)" (Q1.1), before so many
-- bytes of data
unfoldable pub wave_header : ℕ → ℕ → List ℕ
wave_header rate size =
    name_riff ++ little_endian 4 (36 + size) ++ name_wave ++ fmt_chunk rate ++ name_data
    ++ little_endian 4 size

-- "then frames little-endian" (Q1.2): two bytes for each sample, left then right
unfoldable pub data_bytes : List ℤ → List ℕ
data_bytes [] = []
data_bytes (sample ∷ samples) = signed_bytes sample ++ data_bytes samples

-- the file of a rate and a list of samples
unfoldable pub wave_file : ℕ → List ℤ → List ℕ
wave_file rate samples = wave_header rate (2 * length samples) ++ data_bytes samples
