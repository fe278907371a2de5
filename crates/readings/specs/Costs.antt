-- Document 02, §8 (Q8.2, Q8.4): what accepted words cost, by stem.
-- Assumes nothing.
use Rattle.std.specs.Prelude.{Bool, List, [], ◌∷◌, ℕ, zero, suc, ◌+◌, ◌-◌}
use Rattle.word_state.specs.State.{BitsRead, State, side}
use Rattle.words.specs.Word.{word}
use Rattle.readings.specs.Reading.{on_word}

-- an accepted word: the channel that was due, and the bits that it took, "from its place to the next"
pub record Cost : Type 0 where
  pub channel : ℕ
  pub bits : ℕ

-- the word at p, where the next one is at q
abbrev pub cost_at : ℕ → ℕ → State → Cost
cost_at p q s = record { channel = s.channel; bits = q - p }

-- "the sum over the history of what its own words took": those of channel 0 are left's
unfoldable pub left_cost : List Cost → ℕ
left_cost [] = 0
left_cost (w ∷ ws) = side w.channel w.bits 0 + left_cost ws

-- and the others right's
unfoldable pub right_cost : List Cost → ℕ
right_cost [] = 0
right_cost (w ∷ ws) = side w.channel 0 w.bits + right_cost ws

-- both sums
abbrev pub by_stem : List Cost → BitsRead
by_stem ws = record { left = left_cost ws; right = right_cost ws }

-- the costs of n words from the place p and the state s on, as far as they are accepted
unfoldable pub costs : List Bool → ℕ → ℕ → State → List Cost
costs bits zero p s = []
costs bits (suc n) p s = on_word (word bits p s) (λ v q t. cost_at p q s ∷ costs bits n q t) (λ c. [])
