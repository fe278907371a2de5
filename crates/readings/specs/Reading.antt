-- Document 01, "Reading": words one after another. The bits used are the last accepted word's own
-- place.
-- Assumes nothing.
use Rattle.std.specs.Prelude.{Bool, List, [], ◌∷◌, ℕ, zero, suc, ℤ}
use Rattle.word_state.specs.State.{State}
use Rattle.words.specs.Word.{Word, given, refused, word}

-- the refusal (0: none), the samples of the accepted words, the place after them and the state
-- after them
pub record Reading : Type 0 where
  pub refusal : ℕ
  pub samples : List ℤ
  pub place : ℕ
  pub state : State

-- a word: what follows a given sample, or what a refusal leads to
abbrev pub on_word : {A : Type 0} → Word → (ℤ → ℕ → State → A) → (ℕ → A) → A
on_word (given v q t z) next stop = next v q t
on_word (refused c) next stop = stop c

-- a reading with one more sample in front
abbrev pub more : ℤ → Reading → Reading
more v r = record { refusal = r.refusal; samples = v ∷ r.samples; place = r.place; state = r.state }

-- n words from the place p and the state s on. Document 01 (R5): "A refusal counts accepted words
-- only"
unfoldable pub reading : List Bool → ℕ → ℕ → State → Reading
reading bits zero p s = record { refusal = 0; samples = []; place = p; state = s }
reading bits (suc n) p s =
    on_word (word bits p s) (λ v q t. more v (reading bits n q t)) (λ c. record { refusal = c; samples = []; place = p; state = s })
