-- `checked_get_bit` meets its contract: each test as it was met on the way, and what `get_bit`
-- answers.
-- Assumes nothing.
use borrow.Author.Tests.{le-ltb}
use mathlib.Core.Path.{sym}
use Rattle.bits.specs.Checked.{bit_read}
use Rattle.bits.proofs.CheckedLaws.{field-told, read-large}
use Rattle.checked_bits.proofs.checked_get_bit.Goals as goal

pub returns-then-s-gt-MAX_PAYLOAD_BYTES : goal.returns-then-s-gt-MAX_PAYLOAD_BYTES
returns-then-s-gt-MAX_PAYLOAD_BYTES c = sym (read-large _ _ 0 c.if-s-gt-MAX_PAYLOAD_BYTES.true).0

pub returns : goal.returns
unfolding bit_read
returns c =
    rw (
      c.ok_or.ensures.value,
      field-told _,
      c.get_bit.ensures,
      le-ltb _ _ c.if-s-gt-MAX_PAYLOAD_BYTES.false,
    )
