-- The C interface of the entropy payload: what the call answers, and the medians that it lays into the
-- slots.
-- Assumes nothing.
use Rattle.std.specs.Prelude.{ℕ, List, ◌++◌, ℤ}
use Rattle.answers.specs.Guard.{or_else}
use Rattle.entropy.specs.Entropy.{entropy_info, entropy_refusal}
use Rattle.slots.specs.Slots.{slot_refusal}

-- `wv_entropy`: the three left medians, then the three right ones
abbrev pub entropy_values : List ℕ → List ℤ
entropy_values payload = (entropy_info payload).medians_left ++ (entropy_info payload).medians_right

-- 6 before 1, and 1 before 17 (Q7.2)
abbrev pub entropy_answer : List ℕ → List ℤ → ℕ
entropy_answer payload medians = or_else (slot_refusal 6 medians) (entropy_refusal payload)
