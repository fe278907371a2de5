-- Over 16 passes it does not matter whether they are valid.
use Rattle.std.proofs.Common.{◌∙◌}
use Rattle.decorrelation.proofs.Answers.{many-number}
use Rattle.decorrelation.proofs.arrays.analysis_refusal.Goals as goal

pub returns-then-count-gt-MAX_PASSES : goal.returns-then-count-gt-MAX_PASSES
returns-then-count-gt-MAX_PASSES c = c.list_outcome.ensures ∙ many-number _ _ _ c.if-count-gt-MAX_PASSES.true
