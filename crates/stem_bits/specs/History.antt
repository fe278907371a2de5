-- Document 02, §8 (Q8.4): a history of accepted words, each with a payload of its own.
-- Assumes nothing.
use Rattle.std.specs.Prelude.{◌≡◌, List, [], ◌∷◌, ℕ, zero, suc}
use Rattle.entropy.specs.Medians.{Medians}
use Rattle.word_state.specs.State.{State, start}
use Rattle.readings.specs.Costs.{Cost, cost_at}
use Rattle.one_word.specs.View.{WordTold, one_word}

-- "From a fresh state at place 0, after any accepted words, each going on from the state and place before":
-- what the words cost, the last one first, and the place and the state after them
pub data History (left right : Medians) : List Cost → ℕ → State → Type 0 where
  fresh : History left right [] 0 (start left right)
  further : (words : List Cost) (p : ℕ) (s : State) (payload : List ℕ) (w : WordTold)
      → History left right words p s
      → one_word payload p s ≡ w → w.refusal ≡ 0
      → History left right (cost_at p w.place s ∷ words) w.place w.state

-- where the one-word entry stands
pub record Stand : Type 0 where
  pub place : ℕ
  pub state : State

-- after n words of one payload, each going on from the place and state before
unfoldable pub after_words : List ℕ → ℕ → ℕ → State → Stand
after_words payload zero p s = record { place = p; state = s }
after_words payload (suc n) p s = let w = one_word payload p s in after_words payload n w.place w.state
