-- `spans::is_within` meets its contract.
-- Assumes nothing.
use mathlib.Core.Path.{◌≡◌}
use native.Mathlib.Omega.{arith}
use borrow.Author.Rules.{rules}
use lib.IntN.{pos}
use lib.ListN.{get_or}
use mir.Facts.{to_z-of_z}
use mir.Syntax.{w32}
use mir.Val.{SFits}
use Rattle.spans.specs.Spans.{excess_of}
use Rattle.spans.proofs.SpanLaws.{spans_step, spans_end}
use Rattle.spans.proofs.is_within.Goals as goal

-- the number that was looked at
next : (c : goal.After-excess-outside) → c.excess-outside.result ≡ excess_of c.args.span (get_or c.args.list.now c.loop-number.number-index (pos 0))
next c =
    let v = get_or c.args.list.now c.loop-number.number-index (pos 0) in
    let f : SFits w32 v = search rules in
    rw (to_z-of_z f) at c.excess-outside.ensures

pub loop-number-preserved : goal.loop-number-preserved
loop-number-preserved c =
    let l = c.loop-number in
    rw (next (search rules)) (spans_step _ _ _ _ (omega arith) c.loop-number.invariant)

pub returns : goal.returns
returns c = spans_end _ _ _ _ (omega arith) c.loop-number.invariant
