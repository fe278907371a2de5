-- `int32_redundancy::put_copies` meets its contract. The loop's invariant: the first i samples have
-- their copies, and were numbers of 32 bits.
-- Assumes nothing.
use mathlib.Core.Path.{◌≡◌, sym, ap₂, subst, ◌∙◌}
use mathlib.Core.Bool.{cond}
use Prim.Native.Nat.{ℕ}
use native.Mathlib.Omega.{arith}
use lib.Dec.{eqb}
use lib.IntN.{ℤ, pos}
use lib.ListN.{get_or}
use mir.Facts.{to_z-of_z}
use mir.Syntax.{w32}
use mir.Val.{SFits}
use borrow.Author.Rules.{rules}
use Rattle.int32_sample.specs.Sample.{below, low_bits}
use Rattle.int32_sample.specs.Setting.{dups, copies, reinsert}
use Rattle.int32_sample.proofs.ShiftLaws.{below-fits}
use Rattle.int32.proofs.InPlace.{replaced-more, replaced-all, replaced-next}
use Rattle.int32.proofs.InPlace.{read_more, map_from_lem}
use Rattle.int32_redundancy.proofs.put_copies.Goals as goal

-- the bits that are put in are copies of the lowest one
copied : (c : goal.After-put_below) →
    let k = c.args.count in
    c.bits_below.result ≡ copies k (get_or c.loop-sample.samples c.loop-sample.sample-index (pos 0))
copied c =
    let x = get_or c.loop-sample.samples c.loop-sample.sample-index (pos 0) in
    let f : SFits w32 x = search rules in
    c.bits_below.ensures ∙ ap₂ (λ (z : ℤ) (m : ℕ). cond (eqb (low_bits 1 z) 0) 0 m) (to_z-of_z f)
    c.low_bits_mask-mask.ensures

pub loop-sample-preserved : goal.loop-sample-preserved
loop-sample-preserved c =
    let k = c.args.count in
    let x = get_or c.loop-sample.samples c.loop-sample.sample-index (pos 0) in
    let f : SFits w32 x = search rules in
    let e : c.put_below.result ≡ reinsert (dups k) x =
    c.put_below.ensures ∙ ap₂ (λ (n : ℕ) (z : ℤ). below k n z) (copied (search rules)) (to_z-of_z f) in
    let g : SFits w32 c.put_below.result = subst (SFits w32) (sym c.put_below.ensures)
    (below-fits _ _ _) in
    let same = replaced-next _ _ c.loop-sample.samples c.loop-sample.sample-index c.loop-sample.invariant.0 in
    rw (to_z-of_z g) (
      replaced-more _ _ c.loop-sample.samples c.loop-sample.sample-index _ (omega arith) e c.loop-sample.invariant.0,
      read_more c.args.samples.now c.loop-sample.sample-index (subst (SFits w32) same f) c.loop-sample.invariant.1,
    )

pub returns-clause-put : goal.returns-clause-put
returns-clause-put c =
    replaced-all _ _ c.loop-sample.samples c.loop-sample.sample-index (omega arith) c.loop-sample.invariant.0
    ∙ sym (map_from_lem _ 0 _)
