-- The loop's invariant: the lines of the samples passed are laid.
-- Assumes nothing.
use mathlib.Core.Path.{◌≡◌}
use Prim.Native.Nat.{◌+◌, ◌*◌}
use native.Mathlib.Omega.{arith}
use borrow.Author.Rules.{rules}
use lib.IntN.{pos}
use lib.ListN.{get_or}
use mir.Facts.{to_z-of_z}
use mir.Syntax.{w32}
use mir.Val.{SFits}
use Rattle.wvpair_lines.proofs.LineLaws.{printed-none, printed-more, printed-all}
use Rattle.wvpair_lines.proofs.put_lines.Goals as goal

pub loop-i-init : goal.loop-i-init
loop-i-init c = printed-none _ _ _

pub loop-i-preserved : goal.loop-i-preserved
loop-i-preserved c =
    let v = c.args.samples.now in
    let left : SFits w32 (get_or v (2 * c.loop-i.i) (pos 0)) = search rules in
    let right : SFits w32 (get_or v (2 * c.loop-i.i + 1) (pos 0)) = search rules in
    let next : 2 * (c.loop-i.i + 1) ≡ 2 * c.loop-i.i + 2 = omega arith in
    rw next (printed-more (omega (arith, c.requires)) (omega arith) c.loop-i.invariant
    (rw (to_z-of_z left, to_z-of_z right) at c.put_line-place.ensures.text)
    c.put_line-place.ensures.short c.put_line-place.auto.out)

pub returns-clause-text : goal.returns-clause-text
returns-clause-text c =
    printed-all (omega arith) c.loop-i.invariant
