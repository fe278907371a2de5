-- `field_writing::code_count` meets its contract.
-- Assumes nothing.
use Rattle.fields.proofs.WrittenLaws.{short-size, long-size}
use Rattle.field_writing.proofs.code_count.Goals as goal

pub returns-then-code-extras : goal.returns-then-code-extras
returns-then-code-extras c = short-size c.args.digits c.args.extras c.args.code c.if-code-extras.true

pub returns-else-code-extras : goal.returns-else-code-extras
returns-else-code-extras c = long-size c.args.digits c.args.extras c.args.code c.if-code-extras.false
