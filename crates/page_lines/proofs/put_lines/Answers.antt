-- `page_lines::put_lines` meets its contract.
-- Assumes nothing.
use mathlib.Core.Path.{◌≡◌}
use mathlib.Core.List.{List}
use Prim.Native.Nat.{ℕ}
use native.Mathlib.Omega.{arith}
use borrow.Author.Rules.{rules}
use lib.IntN.{ℤ}
use Rattle.page_block.specs.Heard.{Heard}
use Rattle.page_block.specs.declared.Block.{Block}
use Rattle.page_lines.specs.Page.{covered}
use Rattle.page_lines.proofs.LineLaws.{laid_none, laid_more, laid-all}
use Rattle.page_lines.proofs.PartLaws.{line_left, none-left, part-is, left_more}
use Rattle.page_block.proofs.HearLaws.{heard-few}
use Rattle.page_lines.proofs.put_lines.Goals as goal

-- the samples that were looked at are those of the line
heard : (t last k : ℕ) (samples part : List ℤ) (b : Block) → part ≡ covered k samples
    → Heard t last part b → Heard t last (covered k samples) b
heard t last k samples part b e x = rw e at x

pub loop-k-init : goal.loop-k-init
loop-k-init c =
    let e = c.into_iter-k-iterator.ensures.into_iter_gives in
    let none : c.into_iter-k-iterator.result.count ≡ 0 = rw e (search rules) in
    (rw e (record { size_is = search rules; rest_is = search rules }), rw none (laid_none _ _ _))

pub hear-block-requires-clause-before : goal.hear-block-requires-clause-before
hear-block-requires-clause-before c = c.loop-k.invariant.1.flags

pub put_line-place-requires-clause-room : goal.put_line-place-requires-clause-room
put_line-place-requires-clause-room c =
    let s = c.in-Some.ensures.steps in
    let i = c.loop-k.invariant in
    let l = line_left _ _ _ _ i.0 c.requires.whole_frames s.0.1.2 in
    omega (arith, i.1.place_is, i.1.kept, c.requires.enough)

pub put_line-place-requires-clause-few : goal.put_line-place-requires-clause-few
put_line-place-requires-clause-few c =
    let s = c.in-Some.ensures.steps in
    let i = c.loop-k.invariant in
    let f = heard-few _ _ _ _ c.hear-block.ensures in
    (omega (arith, f.0, s.0.1.1, i.0.size_is), omega (arith, f.1, s.0.1.1, i.0.size_is))

pub loop-k-preserved : goal.loop-k-preserved
loop-k-preserved c =
    let s = c.in-Some.ensures.steps in
    let i = c.loop-k.invariant in (
      left_more _ _ _ _ i.0 _ _ s.0.1.0 s.0.1.1 _ _ s.0.0 s.2,
      rw s.2 (laid_more _ _ _ _ _ _ _ _ _ _ c.requires.whole_frames
          (line_left _ _ _ _ i.0 c.requires.whole_frames s.0.1.2) i.1
          (heard _ _ c.loop-k.k-iterator.count c.args.samples.now _ _ (part-is _ _ _ _ i.0 _ _ s.0.1.0 s.0.1.1) c.hear-block.ensures)
          (rw s.1 at c.put_line-place.ensures.text) c.put_line-place.ensures.width
          c.put_line-place.auto.page),
    )

pub returns-clause-text : goal.returns-clause-text
returns-clause-text c =
    let i = c.loop-k.invariant in
    (laid-all _ _ _ _ _ _ _ (none-left _ _ _ _ i.0 c.in-None.ensures.steps.0.1.0) i.1).0

pub returns-clause-width : goal.returns-clause-width
returns-clause-width c =
    let i = c.loop-k.invariant in
    (laid-all _ _ _ _ _ _ _ (none-left _ _ _ _ i.0 c.in-None.ensures.steps.0.1.0) i.1).1
