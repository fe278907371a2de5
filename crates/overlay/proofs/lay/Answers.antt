-- `overlay::lay` meets its contract. The loop's invariant: the first i values are copied.
-- Assumes nothing.
use Rattle.std.proofs.Common.{◌∙◌, arith}
use Rattle.std.proofs.lemmas.List.Edits.{paste_none, paste_more}
use Rattle.overlay.proofs.OverlayLaws.{overlay_copied}
use Rattle.overlay.proofs.lay.Goals as goal

pub loop-i-init : goal.loop-i-init
loop-i-init g c = paste_none c.args.list.now c.args.at c.args.values.now

pub loop-i-preserved : goal.loop-i-preserved
loop-i-preserved g c =
    let more = paste_more c.args.list.now c.args.at c.args.values.now c.loop-i.i c.index-values-i.result
    (omega (arith, c.requires, c.loop-i-test.true)) c.loop-i-test.true in
    rw (c.loop-i.invariant, c.index-values-i.is) more

pub returns : goal.returns
returns g c = c.loop-i.invariant ∙ overlay_copied c.args.list.now c.args.values.now c.args.at c.loop-i.i (omega (arith, c.loop-i-test.false, c.loop-i.auto.i-end))
