-- The sound file of one frame, taken in: with another RIFF length or without its last byte it is no
-- such file.
-- Assumes nothing.
use mathlib.Core.Path.{◌≡◌, refl}
use mathlib.Core.Bool.{true, false}
use mathlib.Core.List.{[], ◌∷◌}
use lib.IntN.{pos, negsuc}
use lib.ListN.{take, set}
use Rattle.little_endian.specs.LittleEndian.{little_endian, from_little_endian}
use Rattle.wave_file.specs.File.{fmt_chunk, wave_header}
use Rattle.wave_file.proofs.Cases.{one_frame}
use Rattle.wave_data.specs.Data.{samples_of, file_samples}
use Rattle.wave_header.specs.Wave.{alike, is_wave}

taken : is_wave one_frame ≡ true
unfolding is_wave alike wave_header fmt_chunk little_endian from_little_endian
taken = refl

its_samples : file_samples one_frame ≡ pos 3 ∷ negsuc 1 ∷ []
unfolding samples_of
its_samples = refl

another_riff_length : is_wave (set one_frame 4 41) ≡ false
unfolding is_wave alike wave_header fmt_chunk little_endian from_little_endian
another_riff_length = refl

without_its_last-byte : is_wave (take 47 one_frame) ≡ false
unfolding is_wave
without_its_last-byte = refl
