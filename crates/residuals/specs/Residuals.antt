-- The residuals of a recording: what finding them leaves, and what looking at a part of them says.
-- Assumes nothing.
-- ---- for the code alone
use Rattle.std.specs.Prelude.{◌≡◌, Option, Some, None, Result, true, cond, List, ℕ, ◌*◌, ◌≤◌, ℤ, take}
use Rattle.std.specs.Result.{result_unwrap_or}
use Rattle.answers.specs.declared.Refusal.{Refusal}
use Rattle.answers.specs.Limits.{max_passes}
use Rattle.answers.specs.Numbers.{outcome_number}
use Rattle.passes.specs.Run.{Fit}
use Rattle.passes.specs.declared.DecorrPass.{DecorrPass}
use Rattle.passes.specs.declared.Direction.TheVariants.{Analysis}
use Rattle.list_tests.specs.Tests.{all_valid}
use Rattle.decorrelation.specs.Lists.{Answer, array_answer}
use Rattle.word_bits.specs.Residuals.{spanned}

-- the frames of a part, a multiple of eight (Q10.4), and its elements
abbrev pub part_frames : ℕ
part_frames = 1024

abbrev pub part_elements : ℕ
part_elements = 2 * part_frames

-- passes that analysis accepts
pub record Analysable (passes : List DecorrPass) (count : ℕ) : Type 0 where
  pub few : count ≤ max_passes
  pub valid : all_valid (take count passes) ≡ true

-- what analysis of a recording leaves in a lent list, and the passes after it
pub record FoundIs (passes : List DecorrPass) (count : ℕ) (recording list : List ℤ) (after : List DecorrPass) : Type 0 where
  pub fit : Fit recording
  pub found : list ≡ (array_answer Analysis passes count recording).buffer
  pub passes-after : after ≡ (array_answer Analysis passes count recording).passes

-- the same, and whether it refuses
pub record AnsweredIs (passes : List DecorrPass) (count : ℕ) (recording list : List ℤ)
    (r : Result (List DecorrPass) Refusal) : Type 0 where
  pub fit : Fit recording
  pub told : outcome_number r ≡ (array_answer Analysis passes count recording).refusal
  pub found : list ≡ (array_answer Analysis passes count recording).buffer
  pub passes-after : result_unwrap_or r passes ≡ (array_answer Analysis passes count recording).passes

-- the passes after an answer whose residuals lie in the span, and none after any other
abbrev pub kept_in_span : Answer → Option (List DecorrPass)
kept_in_span a = cond (spanned a.buffer) (Some a.passes) None

-- what looking at a part says
abbrev pub part_answer : List DecorrPass → ℕ → List ℤ → Option (List DecorrPass)
part_answer passes count part = kept_in_span (array_answer Analysis passes count part)
