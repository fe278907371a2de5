-- A negative word calls once, at its negation: the measure is 1 for a negative word and 0 otherwise.
-- Assumes nothing.
use Rattle.logpack.proofs.Negation.{negative}
use Rattle.logpack.proofs.+expand.Given as goal

abbrev pub decreases-expand : goal.decreases-expand
decreases-expand l = negative l.word
