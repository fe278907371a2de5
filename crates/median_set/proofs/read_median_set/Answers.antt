-- `median_set::read_median_set` meets its contract: the refusals of its three words one after the other,
-- and what is told of each.
-- Assumes nothing.
use mathlib.Core.Path.{ap, ◌∙◌}
use Rattle.answers.specs.Numbers.{outcome_number}
use Rattle.answers.proofs.NumberLaws.{and_outcome, or_none}
use Rattle.entropy.proofs.EntropyLaws.{set-refused}
use Rattle.median_set.proofs.read_median_set.Goals as goal

pub returns-clause-outcome : goal.returns-clause-outcome
returns-clause-outcome c =
    let one = c.expand_log_word-first in
    let two = c.expand_log_word-second in
    let three = c.expand_log_word-third in
    ap outcome_number c.and-3.ensures ∙ and_outcome _ _ ∙ or_none _
    ∙ set-refused c.args.set.now one.ensures.outcome two.ensures.outcome three.ensures.outcome
    (ap outcome_number c.and.ensures ∙ and_outcome _ _)
    (ap outcome_number c.and-2.ensures ∙ and_outcome _ _)
