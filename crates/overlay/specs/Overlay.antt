-- Values laid into a lent list: what every entry that writes promises of the list's other elements
-- (K8, G1).
-- Assumes nothing.
use Rattle.std.specs.Prelude.{List, ◌++◌, ℕ, ◌+◌, length, take, drop}

-- the list with the values from the place `at` on; what stands before them and behind them is kept
unfoldable pub overlay {ℓ} : {A : Type ℓ} → List A → ℕ → List A → List A
overlay list at values = take at list ++ values ++ drop (at + length values) list
