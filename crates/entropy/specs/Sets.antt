-- Document 02, §7 (Q7.2): what is told of one set, and of both, on the way to the answer of an entropy
-- payload.
-- Assumes nothing.
-- ---- for the code alone
use Rattle.std.specs.Prelude.{ℕ, cond, List, [], ◌∷◌, ℤ}
use Rattle.answers.specs.Guard.{or_else, unless_refused}
use Rattle.answers.specs.Numbers.{outcome_number}
use Rattle.logpack.specs.Reach.{log_word_told}
use Rattle.entropy.specs.declared.EntropyInfo.{EntropyInfo}
use Rattle.entropy.specs.declared.SetAnswer.{SetAnswer}
use Rattle.entropy.specs.Entropy.{word_at, set_out_of_reach, no_info}

-- a set with a log word out of reach is refused
abbrev pub set_refusal : List ℕ → ℕ
set_refusal bytes = cond (set_out_of_reach bytes) 17 0

-- what is told of each of its words
abbrev pub set_told : List ℕ → List ℤ
set_told bytes = log_word_told (word_at bytes 0) ∷ log_word_told (word_at bytes 2) ∷ log_word_told (word_at bytes 4) ∷ []

-- two sets are refused where one of them is
abbrev pub both_refusal : SetAnswer → SetAnswer → ℕ
both_refusal left right = or_else (outcome_number left.outcome) (outcome_number right.outcome)

-- their medians
abbrev pub sets_of : SetAnswer → SetAnswer → EntropyInfo
sets_of left right = record { medians_left = left.medians; medians_right = right.medians }

-- are told where none is
abbrev pub both_told : SetAnswer → SetAnswer → EntropyInfo
both_told left right =
    unless_refused (both_refusal left right) (λ number. no_info) (sets_of left right)
