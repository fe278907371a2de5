-- `int32_deconstruction::shorten` meets its contract. The loop's invariant: the first i samples are
-- shifted.
-- Assumes nothing.
use mathlib.Core.List.{map-map}
use mathlib.Core.Path.{◌≡◌, sym, ap, subst, ◌∙◌}
use native.Mathlib.Omega.{arith}
use lib.IntN.{pos}
use lib.ListN.{get_or}
use mir.Facts.{to_z-of_z}
use mir.Syntax.{w32}
use mir.Val.{SFits}
use borrow.Author.Rules.{rules}
use Rattle.int32_sample.specs.Sample.{above}
use Rattle.int32_sample.proofs.ShiftLaws.{above-fits}
use Rattle.int32.proofs.InPlace.{replaced-more, replaced-all, map_from_lem}
use Rattle.int32_deconstruction.proofs.shorten.Goals as goal

pub loop-sample-preserved : goal.loop-sample-preserved
loop-sample-preserved c =
    let x = get_or c.loop-sample.samples c.loop-sample.sample-index (pos 0) in
    let f : SFits w32 x = search rules in
    let first : c.shifted.result ≡ above c.args.shift x =
    c.shifted.ensures ∙ ap (above c.args.shift) (to_z-of_z f) in
    let g : SFits w32 c.shifted.result = subst (SFits w32) (sym first)
    (above-fits c.args.shift x f) in
    let e : c.shifted-in-loop-sample.result ≡ above c.args.count (above c.args.shift x) =
    c.shifted-in-loop-sample.ensures ∙ ap (above c.args.count) (to_z-of_z g ∙ first) in
    let h : SFits w32 c.shifted-in-loop-sample.result = subst (SFits w32) (sym e)
    (above-fits c.args.count _ (above-fits c.args.shift x f)) in
    rw (to_z-of_z h) (replaced-more _ _ c.loop-sample.samples c.loop-sample.sample-index _ (omega arith) e c.loop-sample.invariant)

pub returns : goal.returns
returns c =
    replaced-all _ _ c.loop-sample.samples c.loop-sample.sample-index (omega arith) c.loop-sample.invariant
    ∙ sym (map-map (above c.args.count) (above c.args.shift) c.args.samples.now
    ∙ map_from_lem _ 0 c.args.samples.now)
