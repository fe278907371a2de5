-- `block_check::check_of` meets its contract.
-- Assumes nothing.
use mathlib.Core.Path.{◌≡◌, ◌∙◌}
use Prim.Native.Nat.{◌<◌}
use native.Mathlib.Omega.{arith}
use lib.ListN.{get_or}
use Rattle.std.proofs.lemmas.List.{length-take-le, get_or-take}
use Rattle.block_check.proofs.CheckLaws.{sum-word, summed-none, summed-more, summed-all}
use Rattle.block_check.proofs.check_of.Goals as goal

-- what is added is a byte of the block, at a place below 508
added : (c : goal.After-from)
    → (c.loop-i.i < 508) × (c.from.result ≡ get_or c.args.block.now c.loop-i.i 0) × (c.from.result < 256)
added c =
    let i = c.loop-i.i in
    let block = c.args.block.now in
    let n = length-take-le 508 block c.requires in
    let e : c.from.result ≡ get_or block i 0 = c.from.ensures ∙ get_or-take 508 block i 0 (omega arith) in
    (omega arith, e, omega (arith, (c.type_inv.block i).fits))

pub loop-i-init : goal.loop-i-init
loop-i-init c = summed-none _

pub overflow_add-sum-in-loop-i : goal.overflow_add-sum-in-loop-i
overflow_add-sum-in-loop-i c =
    let a = added c in
    sum-word c.args.block.now c.loop-i.sum c.loop-i.i _ c.from.result a.0 (omega (arith, a.0)) a.2
    c.loop-i.invariant

pub loop-i-preserved : goal.loop-i-preserved
loop-i-preserved c =
    let a = added c in
    summed-more _ _ _ _ c.requires a.0 a.1 a.2 c.loop-i.invariant

pub returns : goal.returns
returns c =
    let n = length-take-le 508 c.args.block.now c.requires in
    summed-all _ _ _ (omega arith) c.loop-i.invariant
