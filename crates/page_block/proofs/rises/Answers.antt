-- `page_block::rises` meets its contract.
-- Assumes nothing.
use Rattle.page_block.proofs.HearLaws.{both-rises}
use Rattle.page_block.proofs.rises.Goals as goal

pub returns : goal.returns
returns c = both-rises _ _ c.requires.0 c.requires.1
