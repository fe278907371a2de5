-- `zero_runs::skip` meets its contract.
-- Assumes nothing.
use mathlib.Core.Path.{sym, ◌∙◌}
use native.Mathlib.Omega.{arith}
use borrow.Author.Tests.{leb-true}
use Rattle.word_bits.proofs.ZeroLaws.{skip_step}
use Rattle.zero_runs.proofs.skip.Goals as goal

pub loop-i-preserved : goal.loop-i-preserved
loop-i-preserved c =
    skip_step _ _ _ (omega (arith, c.loop-i.invariant))
    (leb-true 32 _ (sym c.all_zero.ensures ∙ c.if-not-all_zero.false)) c.loop-i.invariant
