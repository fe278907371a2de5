-- `archive_writer::lay_numbered` meets its contract: what stands in the block is its part of the stream.
-- Assumes nothing.
use mathlib.Core.Path.{refl}
use Rattle.archive_writer.proofs.PartLaws.{part-laid}
use Rattle.archive_writer.proofs.lay_numbered.Goals as goal

pub returns : goal.returns
returns c =
    part-laid c.args.front.now c.args.payload.now _ _ _ _ _ _ c.requires.front c.min-skip.ensures refl
    c.min-end.ensures c.lay_block.ensures
