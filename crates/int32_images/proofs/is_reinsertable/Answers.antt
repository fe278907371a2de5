-- `int32_images::is_reinsertable` meets its contract. The loop's invariant: what was found of
-- the first i samples, joined to the test of the others, is that of all.
-- Assumes nothing.
use mathlib.Core.Path.{◌≡◌, sym, ap, subst, ◌∙◌}
use mathlib.Core.Bool.{cond}
use Prim.Native.Nat.{ℕ, ◌≤◌, ◌<◌}
use native.Mathlib.Omega.{arith}
use lib.Dec.{eqb}
use lib.IntN.{ℤ}
use lib.ListN.{length}
use mir.Facts.{to_z-of_z}
use mir.Syntax.{w32}
use mir.Val.{to_z, of_z, SFits}
use borrow.Author.Rules.{rules}
use Rattle.int32_sample.specs.declared.Redundancy.{Redundancy}
use Rattle.int32_sample.specs.Sample.{low_bits, above}
use Rattle.int32_sample.specs.Setting.{Setting, width, even_bits, odd_bits, reinsertable}
use Rattle.int32_sample.proofs.ShiftLaws.{above-fits}
use Rattle.int32.proofs.InfoLaws.{width_le}
use Rattle.int32_images.proofs.TestLaws.{tested_more, tested-all, compared}
use Rattle.int32_images.proofs.is_reinsertable.Goals as goal

-- what the comparison of one sample shows
looked : (s : Setting) (put : Redundancy) (y rest : ℤ) (low fill : ℕ) → width s ≤ 31 → SFits w32 y
    → put ≡ record { count = width s; even = even_bits s; odd = odd_bits s }
    → low ≡ low_bits put.count (to_z w32 (of_z w32 y)) → rest ≡ above put.count (to_z w32 (of_z w32 y))
    → fill ≡ cond (eqb (low_bits 1 (to_z w32 (of_z w32 rest))) 0) put.even put.odd
    → eqb low fill ≡ reinsertable s y
looked s put y rest low fill w f e l r n =
    let k = put.count in
    let g : SFits w32 rest = subst (SFits w32) (sym r) (above-fits _ _ (rw (to_z-of_z f) f)) in
    let same : to_z w32 (of_z w32 rest) ≡ above k y = to_z-of_z g ∙ r ∙ ap (above k) (to_z-of_z f) in
    let there = l ∙ ap (low_bits k) (to_z-of_z f) in
    let put_in = n ∙ ap (λ (x : ℤ). cond (eqb (low_bits 1 x) 0) put.even put.odd) same in
    compared s _ y _ _ w f e there put_in

pub loop-sample-preserved : goal.loop-sample-preserved
loop-sample-preserved c =
    let inside : c.loop-sample.sample-index < length c.args.samples.now = c.loop-sample-test.true in
    let few = width_le _ _ _ c.args.bits.few_zeros c.args.bits.few_ones c.args.bits.few_dups in
    let seen = looked _ _ _ _ _ _ few (search rules)
    c.redundancy_of-count.ensures c.low_bits.ensures c.shifted.ensures c.bits_below.ensures in
    tested_more _ _ _ _ c.loop-sample.sample-index inside seen c.loop-sample.invariant

pub returns : goal.returns
returns c = tested-all _ _ _ _ (omega arith) c.loop-sample.invariant
