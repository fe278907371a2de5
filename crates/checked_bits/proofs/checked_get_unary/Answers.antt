-- `checked_get_unary` meets its contract: each test as it was met on the way, and what `get_unary`
-- answers.
-- Assumes nothing.
use borrow.Author.Tests.{le-ltb}
use mathlib.Core.Path.{sym}
use Rattle.bits.specs.Checked.{unary_read}
use Rattle.bits.proofs.CheckedLaws.{field-told, read-large}
use Rattle.checked_bits.proofs.checked_get_unary.Goals as goal

pub returns-then-s-gt-MAX_PAYLOAD_BYTES : goal.returns-then-s-gt-MAX_PAYLOAD_BYTES
returns-then-s-gt-MAX_PAYLOAD_BYTES c = sym (read-large _ _ 0 c.if-s-gt-MAX_PAYLOAD_BYTES.true).2

pub returns : goal.returns
unfolding unary_read
returns c =
    rw (
      c.ok_or.ensures.value,
      field-told _,
      c.get_unary.ensures,
      le-ltb _ _ c.if-s-gt-MAX_PAYLOAD_BYTES.false,
    )
