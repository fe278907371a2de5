-- Worked cases of the definitions, by computation.
-- Assumes nothing.
use mathlib.Core.Path.{◌≡◌, refl}
use mathlib.Core.List.{[], ◌∷◌, ◌++◌}
use lib.ListN.{replicate}
use Rattle.wvpair_lines.specs.Lines.{end_line}
use Rattle.wvpair_text.specs.Text.{wvpair_text, frame_count, over_limits}

-- 13 bytes print `end 1 bits 0`
under-is : wvpair_text (replicate 13 0) ≡ end_line 1 0
unfolding wvpair_text
under-is = refl

-- 1,025 frames print `end 5 bits 0`
frames_is : wvpair_text (replicate 12 0 ++ (1 ∷ 4 ∷ [])) ≡ end_line 5 0
unfolding wvpair_text over_limits frame_count
frames_is = refl
