-- `little_endian::signed_bytes` meets its contract.
-- Assumes nothing.
use borrow.Author.Rules.{rules}
use Rattle.little_endian.specs.LittleEndian.{little_endian}
use Rattle.little_endian.proofs.signed_bytes.Goals as goal

pub returns : goal.returns
unfolding little_endian
returns c = search rules
