-- The C interface of single values: what each call answers, and the values that it lays into the
-- slots. The definitions of the layers below say what the values are.
-- Assumes nothing.
use Rattle.std.specs.Prelude.{ℕ, List, [], ◌∷◌, ℤ}
use Rattle.logpack.specs.LogWord.{log_word}
use Rattle.logpack.specs.Reach.{log_word_refusal}
use Rattle.answers.specs.Guard.{or_else}
use Rattle.pass_bytes.specs.PassBytes.{term_of_byte, delta_of_byte, weight_of_byte}
use Rattle.slots.specs.Slots.{slot_refusal}

-- `wv_log_word`: the value of the word
abbrev pub log_word_values : ℤ → List ℤ
log_word_values word = log_word word ∷ []

-- 6 before 17 (Q7.1)
abbrev pub log_word_answer : ℤ → List ℤ → ℕ
log_word_answer word value = or_else (slot_refusal 1 value) (log_word_refusal word)

-- `wv_term_byte`: the term, then the delta
abbrev pub term_byte_values : ℕ → List ℤ
term_byte_values byte = term_of_byte byte ∷ delta_of_byte byte ∷ []

-- `wv_weight_byte`: the weight
abbrev pub weight_byte_values : ℕ → List ℤ
weight_byte_values byte = weight_of_byte byte ∷ []
