-- `logpack::exp2_table::mantissa` meets its contract: the code's table is the definition's, and its
-- entries are bytes.
-- Assumes nothing.
use borrow.Author.Rules.{rules}
use Rattle.logpack.specs.Exp2Table.{exp2_table}
use Rattle.logpack.specs.LogWord.{mantissa}
use Rattle.logpack.proofs.exp2_table.mantissa.Goals as goal

pub returns : goal.returns
unfolding exp2_table mantissa
returns c = search rules
