-- `zero_runs::all_zero` meets its contract.
-- Assumes nothing.
use mathlib.Core.Path.{◌≡◌}
use Prim.Native.Nat.{◌+◌}
use native.Mathlib.Omega.{arith}
use borrow.Author.Rules.{rules}
use lib.IntN.{pos}
use lib.ListN.{get_or}
use mir.Facts.{to_z-of_z}
use mir.Syntax.{w32}
use mir.Val.{SFits}
use Rattle.word_bits.specs.View.{other_of}
use Rattle.word_bits.proofs.ZeroLaws.{block-step}
use Rattle.zero_runs.proofs.all_zero.Goals as goal

-- the residual that was looked at
next : (c : goal.After-other-others)
    → c.other-others.result ≡ other_of (get_or c.args.residuals.now
    (c.args.from + c.loop-i.i) (pos 0))
next c =
    let f : SFits w32 (get_or c.args.residuals.now (c.args.from + c.loop-i.i) (pos 0)) =
    search rules in
    rw (to_z-of_z f) at c.other-others.ensures

pub loop-i-preserved : goal.loop-i-preserved
loop-i-preserved c =
    rw (next (search rules)) (block-step _ _ _ _ (omega arith) c.loop-i.invariant)
