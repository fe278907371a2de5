-- `page_block::hear` meets its contract. The loop's invariant: what is found in the frames
-- passed, joined to what the others hold, is the whole.
-- Assumes nothing.
use mathlib.Core.Path.{ap, ◌∙◌}
use Prim.Native.Nat.{◌+◌, ◌*◌, ◌≤◌}
use native.Mathlib.Omega.{arith}
use borrow.Author.Rules.{rules}
use lib.IntN.{pos, nat_abs}
use lib.ListN.{get_or}
use mir.Facts.{to_z-of_z}
use mir.Syntax.{w32}
use mir.Val.{SFits}
use Rattle.page_block.proofs.HearLaws.{rises-small, flags_are, walked_more}
use Rattle.page_block.proofs.HearLaws.{walked_all}
use Rattle.page_block.proofs.RiseLaws.{exceeds-few}
use Rattle.page_block.proofs.hear.Goals as goal

pub rises-clicks-requires : goal.rises-clicks-requires
rises-clicks-requires c =
    (rw c.flags-next.ensures (flags_are _ _ (exceeds-few _ _) (exceeds-few _ _)), c.loop-i.invariant.flags)

-- what a turn adds is one click for each stem at most
pub overflow_add-clicks : goal.overflow_add-clicks
overflow_add-clicks c =
    let few : c.rises-clicks.result ≤ 65537 = rw c.rises-clicks.ensures (rises-small _ _ _ _) in
    let inv = c.loop-i.invariant in
    omega (arith, c.requires.few, inv.left-few, inv.right-few, inv.here)

pub loop-i-preserved : goal.loop-i-preserved
loop-i-preserved c =
    let samples = c.args.samples.now in
    let f : SFits w32 (get_or samples (2 * c.loop-i.i) (pos 0)) = search rules in
    let g : SFits w32 (get_or samples (2 * c.loop-i.i + 1) (pos 0)) = search rules in
    walked_more _ _ samples _ _ _ _ c.loop-i.i _ _ _ _ _ _
    c.requires.few
    (omega (arith, c.loop-i-test.true))
    c.loop-i.invariant
    (c.distance-left.ensures ∙ ap nat_abs (to_z-of_z f))
    (c.distance-right.ensures ∙ ap nat_abs (to_z-of_z g))
    c.max-left_peak.ensures
    c.max-right_peak.ensures
    c.flags-next.ensures
    c.rises-clicks.ensures

pub returns : goal.returns
returns c = walked_all _ _ _ _ _ _ _ _ (omega arith) c.loop-i.invariant
