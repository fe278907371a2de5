-- `pass_bytes::expand_weight_byte` meets its contract. Assumes nothing.
use borrow.Author.Rules.{rules}
use Rattle.pass_bytes.proofs.ByteLaws.{weight-up, weight-down}
use Rattle.pass_bytes.proofs.expand_weight_byte.Goals as goal

pub returns-then-byte-lt128 : goal.returns-then-byte-lt128
returns-then-byte-lt128 c = rw c.from-n.ensures (weight-up _ (search rules))

pub returns-else-byte-lt128 : goal.returns-else-byte-lt128
returns-else-byte-lt128 c = rw c.from.ensures (weight-down _ (search rules) (search rules))
