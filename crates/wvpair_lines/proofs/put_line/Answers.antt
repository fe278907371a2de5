-- Four writers, one behind the other.
-- Assumes nothing.
use Prim.Native.Nat.{◌≤◌}
use native.Mathlib.Omega.{arith}
use lib.ListN.{length}
use mir.Facts.{to_z-of_z}
use mir.Syntax.{w32}
use mir.Val.{SFits}
use Rattle.wvpair_lines.proofs.LineLaws.{frame-put}
use borrow.Author.Rules.{rules}
use Rattle.wvpair_lines.proofs.put_line.Goals as goal

pub returns-clause-text : goal.returns-clause-text
returns-clause-text c =
    let left : SFits w32 c.args.left = search rules in
    let right : SFits w32 c.args.right = search rules in
    let h : c.args.at ≤ length c.args.out.now = omega (arith, c.requires) in
    let first = rw (to_z-of_z left) at c.put_signed-space.ensures.text in
    let second = rw (to_z-of_z right) at c.put_signed-newline.ensures.text in
    frame-put c.args.left c.args.right h first c.put_byte-second.ensures second
    c.put_byte.ensures
