-- `block_faults::good_blocks` meets its contract.
-- Assumes nothing.
use mathlib.Core.Path.{◌≡◌, ◌∙◌}
use native.Mathlib.Omega.{arith}
use borrow.Author.Rules.{rules}
use lib.ListN.{length, length-take}
use Rattle.block_faults.proofs.GoodLaws.{Left, judged_none, judged_bad, judged_more, judged_short, judged_all}
use Rattle.block_faults.proofs.GoodLaws.{told_at, judged_at, rest-long, block_left, none_left_count, block-is, left_more}
use Rattle.block_faults.proofs.good_blocks.Goals as goal

pub loop-i-init : goal.loop-i-init
loop-i-init c =
    let e = c.into_iter-i-iterator.ensures.into_iter_gives in
    let none : c.into_iter-i-iterator.result.count ≡ 0 = rw e (search rules) in
    let first = c.first-position.ensures in (
      rw e (record { size_is = search rules; rest_is = search rules }),
      rw (none, first.0, first.1) (judged_none _),
    )

pub returns-then-block-lt-BLOCK_BYTES : goal.returns-then-block-lt-BLOCK_BYTES
returns-then-block-lt-BLOCK_BYTES c =
    let s = c.in-Some.ensures.steps in
    let i = c.loop-i.invariant in
    s.1 ∙ judged_short _ _ _ _ (block_left _ _ _ _ i.0 s.0.1.2) i.1
    (omega (arith, c.if-block-lt-BLOCK_BYTES.true, s.0.1.1, i.0.size_is, rest-long _ _ _ _ i.0))

pub returns-then-block_wrong : goal.returns-then-block_wrong
returns-then-block_wrong c =
    let s = c.in-Some.ensures.steps in
    let i = c.loop-i.invariant in
    let b = block-is _ _ _ _ i.0 _ _ s.0.1.0 s.0.1.1 in
    let p = c.announced_by-position.ensures in
    s.1 ∙ judged_bad _ _ _ _ (block_left _ _ _ _ i.0 s.0.1.2) i.1 _ _ (told_at c.args.file.now _ c.loop-i.i-iterator.count _ _ _ b p.announced)
    (judged_at _ _ _ _ _ _ _ _ _ b s.1 p.before c.blocks_in-count.ensures c.block_wrong.ensures)
    c.if-block_wrong.true

pub loop-i-preserved : goal.loop-i-preserved
loop-i-preserved c =
    let s = c.in-Some.ensures.steps in
    let i = c.loop-i.invariant in
    let b = block-is _ _ _ _ i.0 _ _ s.0.1.0 s.0.1.1 in
    let p = c.announced_by-position.ensures in
    let n = c.next-position.ensures in (
      left_more _ _ _ _ i.0 _ _ s.0.1.0 s.0.1.1 _ _ s.0.0 s.2,
      rw (s.2, n.announced)
          (judged_more _ _ _ _ (block_left _ _ _ _ i.0 s.0.1.2) i.1 _ _ (told_at c.args.file.now _ c.loop-i.i-iterator.count _ _ _ b p.announced)
          (judged_at _ _ _ _ _ _ _ _ _ b s.1 p.before c.blocks_in-count.ensures c.block_wrong.ensures) _
          c.if-block_wrong.false (n.before ∙ rw p.before)),
    )

pub returns : goal.returns
returns c =
    let i = c.loop-i.invariant in
    let n = none_left_count _ _ _ _ i.0 c.in-None.ensures.steps.0.1.0 in
    judged_all _ _ _ _ _ c.blocks_in-count.ensures (omega (arith, c.blocks_in-count.ensures, n)) i.1
