-- Worked cases of the definitions, by computation.
-- Assumes nothing.
use mathlib.Core.Path.{◌≡◌, refl}
use mathlib.Core.List.{[], ◌∷◌, ◌++◌}
use lib.IntN.{pos, negsuc}
use lib.ListN.{replicate}
use Rattle.decimal.specs.Column.{column}
use Rattle.decimal.specs.Decimal.{digits, decimal}
use Rattle.page_block.specs.Sound.{lefts, rights, peak, click, clicks, last_distance}
use Rattle.page_lines.specs.Page.{line_count, row, line, lines, page}

-- 0, 1, 1,024 and 1,025 frames
no_line : line_count 0 ≡ 0
unfolding line_count
no_line = refl

one_line : line_count 2 ≡ 1
unfolding line_count
one_line = refl

whole-line : line_count 2048 ≡ 1
unfolding line_count
whole-line = refl

two-lines : line_count 2050 ≡ 2
unfolding line_count
two-lines = refl

-- `     0          4 2147483648       1       1` of two frames, above 3
page-is :
    page 3 (pos 4 ∷ pos 3 ∷ pos 0 ∷ negsuc 2147483647 ∷ [])
    ≡ replicate 5 32 ++ (48 ∷ replicate 10 32) ++
    (52 ∷ 32 ∷ 50 ∷ 49 ∷ 52 ∷ 55 ∷ 52 ∷ 56 ∷ 51 ∷ 54 ∷ 52 ∷ 56 ∷ replicate 7 32) ++
    (49 ∷ replicate 7 32) ++ 49 ∷ 10 ∷ []
unfolding page lines line row line_count column decimal digits lefts rights peak clicks click last_distance
page-is = refl
