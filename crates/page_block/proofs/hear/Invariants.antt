-- `page_block::hear` meets its contract. The loop's invariant: what is found in the frames
-- passed, joined to what the others hold, is the whole.
-- Assumes nothing.
use Rattle.page_block.proofs.HearLaws.{Walked}
use Rattle.page_block.proofs.hear.Given as goal

abbrev pub invariant-loop-i : goal.invariant-loop-i
invariant-loop-i l = Walked l.threshold l.before l.samples l.left_peak l.right_peak l.clicks l.last l.i
