-- `block_laying::lay_block` meets its contract: number and used bytes, the data, zeros, and the check.
-- Assumes nothing.
use native.Mathlib.Omega.{arith}
use Rattle.block_laying.proofs.ClearLaws.{cleared}
use Rattle.block_laying.proofs.LayLaws.{block-laid}
use Rattle.block_laying.proofs.lay_block.Goals as goal

pub returns : goal.returns
returns c =
    let room = c.requires.room in
    let used = c.requires.used in
    let p = c.put_text-end.ensures in
    block-laid _ _ _ _ _ _ _ _ _ _ _ _ _ c.requires.number c.requires.used
    (omega (arith, c.requires.room))
    (record {
      head = c.lay_number.ensures;
      front = c.put_text-middle.ensures;
      part = c.put_text-end.ensures;
      zeros = cleared _ _ _ _ (omega arith) (omega arith) (c.fill.ensures.after (λ y e. e));
    }) c.check_of-check.ensures c.lay_number-2.ensures
