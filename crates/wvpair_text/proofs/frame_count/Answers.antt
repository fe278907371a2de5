-- The two bytes, the low one first.
-- Assumes nothing.
use borrow.Author.Rules.{rules}
use Rattle.wvpair_text.specs.Text.{frame_count}
use Rattle.wvpair_text.proofs.frame_count.Goals as goal

pub returns : goal.returns
unfolding frame_count
returns c = search rules
