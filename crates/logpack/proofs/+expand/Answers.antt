-- A negative word has its negation's value with the sign turned; any other is a number of its own.
-- Assumes nothing.
use mathlib.Core.Path.{◌∙◌}
use borrow.Author.Rules.{rules}
use Rattle.wrapping.proofs.StdWrap.{negation-is}
use Rattle.logpack.proofs.Negation.{negated, negated-raw, plain-raw}
use Rattle.logpack.proofs.+expand.Goals as goal

pub returns-then-word-lt0 : goal.returns-then-word-lt0
returns-then-word-lt0 t c =
    negated-raw c.expand.ensures (c.wrapping_neg.ensures ∙ negation-is _ (search rules))
    (negated c.args.word c.ranges.word c.requires c.if-word-lt0.true)

pub returns : goal.returns
returns t c = plain-raw c.args.word c.expand_magnitude.ensures c.ranges.word c.if-word-lt0.false
