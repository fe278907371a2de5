-- `int32_literals::append_literals` meets its contract. The loop's invariant: the first i samples
-- have their literal bits.
-- Assumes nothing.
use mathlib.Core.Path.{◌≡◌, sym, ap₂, subst, ◌∙◌}
use Prim.Native.Nat.{ℕ}
use native.Mathlib.Omega.{arith}
use lib.IntN.{ℤ, pos}
use lib.ListN.{get_or}
use mir.Facts.{to_z-of_z}
use mir.Syntax.{w32}
use mir.Val.{SFits}
use borrow.Author.Rules.{rules}
use Rattle.bits.specs.Bits.{bits_of}
use Rattle.bits.proofs.BitLaws.{num-take_lt}
use Rattle.int32_sample.specs.Sample.{below}
use Rattle.int32_sample.proofs.ShiftLaws.{below-fits}
use Rattle.int32.proofs.InPlace.{replaced-more, replaced-all}
use Rattle.int32_literals.proofs.LiteralLaws.{append_at, appended-from}
use Rattle.int32_literals.proofs.append_literals.Goals as goal

pub loop-i-preserved : goal.loop-i-preserved
loop-i-preserved c =
    let k = c.args.count in
    let f : SFits w32 (get_or c.loop-i.samples c.loop-i.i (pos 0)) = search rules in
    let e : c.put_below.result ≡ append_at k (bits_of c.args.literal.now) c.loop-i.i
    (get_or c.loop-i.samples c.loop-i.i (pos 0)) =
    c.put_below.ensures ∙ ap₂ (λ (n : ℕ) (x : ℤ). below k n x) c.literal_at-bits.ensures
    (to_z-of_z f) in
    let g : SFits w32 c.put_below.result = subst (SFits w32) (sym e) (below-fits k _ _) in
    rw (to_z-of_z g) (replaced-more _ _ c.loop-i.samples c.loop-i.i _ (omega arith) e c.loop-i.invariant)

pub returns : goal.returns
returns c =
    replaced-all _ _ c.loop-i.samples c.loop-i.i (omega arith) c.loop-i.invariant ∙ sym (appended-from _ _ _)

pub put_below-requires-clause-number : goal.put_below-requires-clause-number
put_below-requires-clause-number c =
    let k = c.args.count in
    rw c.literal_at-bits.ensures (num-take_lt k _)
