-- A table of worked cases, in groups of rows: a row has what a definition gives and what is
-- expected of it.
-- Assumes nothing.
use Rattle.std.specs.Prelude.{◌≡◌, List, [], ◌∷◌, ℕ, ℤ, pos, neg_ℤ}

pub record Row : Type 1 where
  pub Value : Type 0
  pub computed : Value
  pub expected : Value

infix 40 ◌gives◌
-- a row, as document 01 says it: the definition's value gives the expected one
abbrev pub ◌gives◌ : {A : Type 0} → A → A → Row
◌gives◌ {A} x y = record { Value = A; computed = x; expected = y }

-- a negative number, written by its size
abbrev pub minus : ℕ → ℤ
minus n = neg_ℤ (pos n)

-- every row of a group holds
abbrev pub Hold : List Row → Type 0
Hold [] = Unit {0}
Hold (row ∷ rows) = (row.computed ≡ row.expected) × Hold rows

-- every group of a table holds
abbrev pub HoldAll : List (List Row) → Type 0
HoldAll [] = Unit {0}
HoldAll (group ∷ groups) = Hold group × HoldAll groups
