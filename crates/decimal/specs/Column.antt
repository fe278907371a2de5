-- A number in a column of a text: "right-aligned" (Q5.2), and read out of it again (Q5.5).
-- Assumes nothing.
use Rattle.std.specs.Prelude.{cond, List, [], ◌∷◌, ◌++◌, ℕ, ◌+◌, ◌-◌, ◌%◌, ◌≤◌, ◌<◌, eqb, length, replicate}
use Rattle.decimal.specs.Decimal.{decimal, read_digits}

-- n at the end of a column of this width, with spaces before it; a column that is too narrow is as
-- wide as its number
unfoldable pub column : ℕ → ℕ → List ℕ
column width n = replicate (width - length (decimal n)) 32 ++ decimal n

-- the number that a column holds, after its spaces
unfoldable pub read_column : List ℕ → ℕ
read_column [] = 0
read_column (c ∷ cs) = cond (eqb c 32) (read_column cs) (read_digits 0 (c ∷ cs))

-- ---- for the code alone

-- the byte before the last digits of a number, by what is left of it: its last digit, or a space
unfoldable pub mark : ℕ → ℕ
mark rest = cond (eqb rest 0) 32 (48 + rest % 10)

-- what stands before the last digits of a column: what is left of the number, or spaces
unfoldable pub front : ℕ → ℕ → List ℕ
front width rest = cond (eqb rest 0) (replicate width 32) (column width rest)

-- it has room there, which none needs where nothing is left
abbrev pub Room : ℕ → ℕ → Type 0
Room width rest = 0 < rest → length (decimal rest) ≤ width
