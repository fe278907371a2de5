-- Worked cases of the definitions, by computation.
-- Assumes nothing.
use mathlib.Core.Path.{◌≡◌, refl}
use mathlib.Core.List.{[], ◌∷◌, ◌++◌}
use lib.ListN.{replicate}
use Rattle.little_endian.specs.LittleEndian.{from_little_endian}
use Rattle.morning_text.specs.Input.{frame_count, input_entry}

-- 15 bytes are refused with 1
short-is : input_entry 0 (replicate 15 0) (7 ∷ []) ≡ record { refusal = 1; written = 0; bytes = 7 ∷ [] }
unfolding input_entry
short-is = refl

-- 1,025 frames, the low byte first
frames_are : frame_count (replicate 12 9 ++ (1 ∷ 4 ∷ 0 ∷ 0 ∷ 126 ∷ [])) ≡ 1025
unfolding from_little_endian
frames_are = refl
