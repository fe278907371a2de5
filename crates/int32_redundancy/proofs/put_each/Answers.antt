-- `int32_redundancy::put_each` meets its contract. The loop's invariant: the first i samples have
-- their bits, and were numbers of 32 bits.
-- Assumes nothing.
use mathlib.Core.Path.{◌≡◌, sym, ap, subst, ◌∙◌}
use native.Mathlib.Omega.{arith}
use lib.IntN.{pos}
use lib.ListN.{get_or}
use mir.Facts.{to_z-of_z}
use mir.Syntax.{w32}
use mir.Val.{SFits}
use borrow.Author.Rules.{rules}
use Rattle.int32_sample.specs.Sample.{below}
use Rattle.int32_sample.proofs.ShiftLaws.{below-fits}
use Rattle.int32.proofs.InPlace.{replaced-more, replaced-all, replaced-next}
use Rattle.int32.proofs.InPlace.{read_more, map_from_lem}
use Rattle.int32_redundancy.proofs.put_each.Goals as goal

pub loop-sample-preserved : goal.loop-sample-preserved
loop-sample-preserved c =
    let x = get_or c.loop-sample.samples c.loop-sample.sample-index (pos 0) in
    let f : SFits w32 x = search rules in
    let e : c.put_below.result ≡ below c.args.count c.args.n x =
    c.put_below.ensures ∙ ap (below c.args.count c.args.n) (to_z-of_z f) in
    let g : SFits w32 c.put_below.result = subst (SFits w32) (sym c.put_below.ensures)
    (below-fits _ _ _) in
    let same = replaced-next _ _ c.loop-sample.samples c.loop-sample.sample-index c.loop-sample.invariant.0 in
    rw (to_z-of_z g) (
      replaced-more _ _ c.loop-sample.samples c.loop-sample.sample-index _ (omega arith) e c.loop-sample.invariant.0,
      read_more c.args.samples.now c.loop-sample.sample-index (subst (SFits w32) same f) c.loop-sample.invariant.1,
    )

pub returns-clause-put : goal.returns-clause-put
returns-clause-put c =
    replaced-all _ _ c.loop-sample.samples c.loop-sample.sample-index (omega arith) c.loop-sample.invariant.0
    ∙ sym (map_from_lem _ 0 _)
