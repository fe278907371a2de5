-- Document 01, "Proved cases" (C6): what `wvpair` prints of a reading. "Each whole frame written is
-- a line, left, space, right; last `end` refusal `bits` used".
-- Assumes nothing.
use Rattle.std.specs.Prelude.{List, [], ◌∷◌, ◌++◌, ℕ, ℤ}
use Rattle.decimal.specs.Decimal.{decimal}
use Rattle.wvpair_lines.specs.Signed.{signed_decimal}

-- the line of a frame: left, space, right, newline
unfoldable pub frame_line : ℤ → ℤ → List ℕ
frame_line left right = signed_decimal left ++ 32 ∷ (signed_decimal right ++ (10 ∷ []))

-- a line for each whole frame; a left sample without its right one has none
unfoldable pub frame_lines : List ℤ → List ℕ
frame_lines [] = []
frame_lines (left ∷ []) = []
frame_lines (left ∷ right ∷ samples) = frame_line left right ++ frame_lines samples

-- `end `
abbrev pub end_word : List ℕ
end_word = 101 ∷ 110 ∷ 100 ∷ 32 ∷ []

-- ` bits `
abbrev pub bits_word : List ℕ
bits_word = 32 ∷ 98 ∷ 105 ∷ 116 ∷ 115 ∷ 32 ∷ []

-- the last line: `end`, the refusal, `bits`, the bits used
unfoldable pub end_line : ℕ → ℕ → List ℕ
end_line refusal bits = end_word ++ (decimal refusal ++ (bits_word ++ (decimal bits ++ (10 ∷ []))))

-- all that is printed of a reading
unfoldable pub report : List ℤ → ℕ → ℕ → List ℕ
report samples refusal bits = frame_lines samples ++ end_line refusal bits
