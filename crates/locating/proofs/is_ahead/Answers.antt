-- `locating::is_ahead` meets its contract.
-- Assumes nothing.
use native.Mathlib.Omega.{arith}
use lib.IntN.{pos}
use lib.ListN.{get_or, length}
use borrow.Author.Tests.{le-ltb}
use mir.Facts.{to_z-of_z}
use mir.Syntax.{w32}
use mir.Val.{SFits}
use Rattle.entropy.specs.Medians.{medians_of}
use Rattle.word_bits.proofs.AheadLaws.{ahead-some, ahead-end}
use borrow.Author.Rules.{rules}
use Rattle.locating.proofs.is_ahead.Goals as goal

pub returns-then-next-residuals : goal.returns-then-next-residuals
returns-then-next-residuals c =
    let f : SFits w32 (get_or c.args.residuals.now c.args.next (pos 0)) = search rules in
    rw (c.magnitude.ensures, to_z-of_z f)
    (ahead-some (medians_of c.args.medians) c.args.residuals.now c.args.next c.requires (omega arith))

pub returns-else-next-residuals : goal.returns-else-next-residuals
returns-else-next-residuals c =
    rw (le-ltb c.args.next (length c.args.residuals.now) (omega arith))
    (ahead-end (medians_of c.args.medians) c.args.residuals.now c.args.next (omega arith))
