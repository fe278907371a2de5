-- Document 01, "Proved cases" (C8, C9): the two starred inputs of `wvpair`, and the text of each.
-- Assumes nothing.
use Rattle.std.specs.Prelude.{List, [], ◌∷◌, ◌++◌, ℕ}

-- "Hexadecimal input 00 01 six times"
abbrev pub seed_bytes : List ℕ
seed_bytes = 0 ∷ 1 ∷ 0 ∷ 1 ∷ 0 ∷ 1 ∷ 0 ∷ 1 ∷ 0 ∷ 1 ∷ 0 ∷ 1 ∷ []

-- "01 00, 7E 02 prints" `3 -1` and `end 0 bits 10` (C8)
abbrev pub first_input : List ℕ
first_input = seed_bytes ++ (1 ∷ 0 ∷ 126 ∷ 2 ∷ [])

abbrev pub first_text : List ℕ
first_text =
    51 ∷ 32 ∷ 45 ∷ 49 ∷ 10
    ∷ 101 ∷ 110 ∷ 100 ∷ 32 ∷ 48 ∷ 32 ∷ 98 ∷ 105 ∷ 116 ∷ 115 ∷ 32 ∷ 49 ∷ 48 ∷ 10 ∷ []

-- "The same with 02 00, 07: `0 0` twice, `end 0 bits 6`" (C9)
abbrev pub second_input : List ℕ
second_input = seed_bytes ++ (2 ∷ 0 ∷ 7 ∷ [])

abbrev pub second_text : List ℕ
second_text =
    48 ∷ 32 ∷ 48 ∷ 10
    ∷ 48 ∷ 32 ∷ 48 ∷ 10
    ∷ 101 ∷ 110 ∷ 100 ∷ 32 ∷ 48 ∷ 32 ∷ 98 ∷ 105 ∷ 116 ∷ 115 ∷ 32 ∷ 54 ∷ 10 ∷ []
