-- The sound file of one frame, 3 and -2, at 44,100 frames a second: byte for byte what Python's
-- `wave` writes.
-- Assumes nothing.
use mathlib.Core.Path.{◌≡◌, refl}
use mathlib.Core.List.{List, [], ◌∷◌}
use Prim.Native.Nat.{ℕ}
use lib.IntN.{pos, negsuc}
use Rattle.little_endian.specs.LittleEndian.{little_endian}
use Rattle.wave_file.specs.File.{fmt_chunk, wave_header, data_bytes, wave_file}

abbrev pub one_frame : List ℕ
one_frame =
    82 ∷ 73 ∷ 70 ∷ 70 ∷ 40 ∷ 0 ∷ 0 ∷ 0 ∷ 87 ∷ 65 ∷ 86 ∷ 69 ∷
    102 ∷ 109 ∷ 116 ∷ 32 ∷ 16 ∷ 0 ∷ 0 ∷ 0 ∷ 1 ∷ 0 ∷ 2 ∷ 0 ∷ 68 ∷ 172 ∷ 0 ∷ 0 ∷ 16 ∷ 177 ∷ 2 ∷ 0 ∷
    4 ∷ 0 ∷ 16 ∷ 0 ∷
    100 ∷ 97 ∷ 116 ∷ 97 ∷ 4 ∷ 0 ∷ 0 ∷ 0 ∷
    3 ∷ 0 ∷ 254 ∷ 255 ∷ []

pub one_frame_lem : wave_file 44100 (pos 3 ∷ negsuc 1 ∷ []) ≡ one_frame
unfolding wave_file wave_header fmt_chunk data_bytes little_endian
one_frame_lem = refl
