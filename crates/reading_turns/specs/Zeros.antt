-- The zeros of a run, laid into a list.
-- Assumes nothing.
-- ---- for the code alone
use Rattle.std.specs.Prelude.{◌≡◌, List, ℕ, ◌+◌, ◌-◌, ◌≤◌, ◌<◌, ℤ, pos, length, replicate}
use Rattle.overlay.specs.Overlay.{overlay}

-- n zeros from i on, in a list that keeps its other elements
abbrev pub zeroed : List ℤ → ℕ → ℕ → List ℤ
zeroed l i n = overlay l i (replicate n (pos 0))

-- the zeros of a run from `first` on, the first and `owed` more, as far as the list goes; r is
-- the index after them
pub record ZerosIs (before after : List ℤ) (first owed r : ℕ) : Type 0 where
  pub list-is : after ≡ zeroed before first (r - first)
  pub some : first < r
  pub within : r ≤ length before
  pub most : r ≤ first + 1 + owed
  pub all : r < length before → r ≡ first + 1 + owed
