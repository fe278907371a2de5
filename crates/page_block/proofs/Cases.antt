-- Worked cases of the definitions, by computation.
-- Assumes nothing.
use mathlib.Core.Path.{◌≡◌, refl}
use mathlib.Core.List.{[], ◌∷◌}
use lib.IntN.{pos, negsuc}
use Rattle.page_block.specs.Sound.{lefts, rights, peak, click, clicks}

-- the channels of two frames
lefts_are : lefts (pos 1 ∷ pos 2 ∷ pos 3 ∷ pos 4 ∷ []) ≡ pos 1 ∷ pos 3 ∷ []
unfolding lefts
lefts_are = refl

rights_are : rights (pos 1 ∷ pos 2 ∷ pos 3 ∷ pos 4 ∷ []) ≡ pos 2 ∷ pos 4 ∷ []
unfolding rights
rights_are = refl

-- -2,147,483,648 is 2,147,483,648 from 0
peak-is : peak (pos 7 ∷ negsuc 2147483647 ∷ negsuc 1 ∷ []) ≡ 2147483648
unfolding peak
peak-is = refl

-- above 5: 6 after 5 is a click, -7 after it is none, and 6 after 5 again is one
clicks_are : clicks 5 0 (pos 5 ∷ pos 6 ∷ negsuc 6 ∷ pos 5 ∷ pos 6 ∷ []) ≡ 2
unfolding clicks click
clicks_are = refl

-- the first is none after a louder one, as at an edge
after_loud_is : clicks 5 6 (pos 6 ∷ pos 0 ∷ []) ≡ 0
unfolding clicks click
after_loud_is = refl
