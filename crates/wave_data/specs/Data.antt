-- Document 02 §1: the samples of a sound file and the bytes that hold them.
-- Assumes nothing.
use Rattle.std.specs.Prelude.{Bool, List, [], ◌∷◌, ℕ, ◌+◌, ◌*◌, ◌<◌, ℤ, drop, get_or}
use Rattle.little_endian.specs.LittleEndian.{signed_word}
use Rattle.spans.specs.Spans.{within}
use Rattle.wave_file.specs.File.{header_bytes}

-- every sample lies within 16 bits, -32,768 to 32,767
abbrev pub within16 : List ℤ → Bool
within16 samples = within 32768 samples

-- the bytes that the file of so many samples has
abbrev pub file_bytes : ℕ → ℕ
file_bytes elements = header_bytes + 2 * elements

-- each is a byte
abbrev pub Bytes : List ℕ → Type 0
Bytes list = (i : ℕ) → get_or list i 0 < 256

-- the samples that bytes hold, two bytes each (Q1.2)
unfoldable pub samples_of : List ℕ → List ℤ
samples_of (lo ∷ hi ∷ bytes) = signed_word lo hi ∷ samples_of bytes
samples_of (lo ∷ []) = []
samples_of [] = []

-- the samples of a file: those of the bytes after its header
abbrev pub file_samples : List ℕ → List ℤ
file_samples file = samples_of (drop header_bytes file)
