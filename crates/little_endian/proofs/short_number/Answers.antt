-- `little_endian::short_number` meets its contract.
-- Assumes nothing.
use borrow.Author.Rules.{rules}
use Rattle.little_endian.specs.LittleEndian.{from_little_endian}
use Rattle.little_endian.proofs.short_number.Goals as goal

pub returns : goal.returns
unfolding from_little_endian
returns c = search rules
