-- The threshold as it is typed: decimal digits, and a number of 32 bits (Q5.4).
-- Assumes nothing.
use Rattle.std.specs.Prelude.{Bool, true, cond, ◌&&◌, List, [], ◌∷◌, ℕ, Option, Some, None, ltb, leb, length}
use Rattle.decimal.specs.Decimal.{read_digits}

-- `0` to `9`
unfoldable pub is_digit : ℕ → Bool
is_digit c = leb 48 c && leb c 57

-- nothing but digits
unfoldable pub all_digits : List ℕ → Bool
all_digits [] = true
all_digits (c ∷ cs) = is_digit c && all_digits cs

-- at least one digit, nothing else, and below 2 to the 32
unfoldable pub is_threshold : List ℕ → Bool
is_threshold text = ltb 0 (length text) && (all_digits text && ltb (read_digits 0 text) 4294967296)

-- the threshold that a text is, if it is one
abbrev pub threshold_in : List ℕ → Option ℕ
threshold_in text = cond (is_threshold text) (Some (read_digits 0 text)) None
