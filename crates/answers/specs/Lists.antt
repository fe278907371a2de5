-- Why an entry refuses a list of frames and the storage lent for what it makes of them: export
-- (Q1.3) and the morning page (Q5.6).
-- Assumes nothing.
use Rattle.std.specs.Prelude.{◌≡◌, cond, ℕ, ◌%◌, ◌≤◌, ltb, eqb}
use Rattle.answers.specs.Limits.{max_elements}

-- over 262,144 samples 5, an odd number of them 6, storage under what is needed 11, else 0
unfoldable pub frames_refusal : ℕ → ℕ → ℕ → ℕ
frames_refusal elements needed room = cond (ltb max_elements elements) 5 (cond (eqb (elements % 2) 0) (cond (ltb room needed) 11 0) 6)

-- none of these three
pub record Fitting (elements needed room : ℕ) : Type 0 where
  pub few : elements ≤ max_elements
  pub whole_frames : elements % 2 ≡ 0
  pub enough : needed ≤ room
