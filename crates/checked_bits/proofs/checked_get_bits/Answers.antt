-- `checked_get_bits` meets its contract: each test as it was met on the way, and what `get_bits`
-- answers.
-- Assumes nothing.
use borrow.Author.Tests.{lt-ltb, le-ltb}
use mathlib.Core.Path.{sym}
use Rattle.bits.specs.Checked.{bits_read_at}
use Rattle.bits.proofs.CheckedLaws.{field-told, read-large}
use Rattle.checked_bits.proofs.checked_get_bits.Goals as goal

pub returns-then-s-gt-MAX_PAYLOAD_BYTES : goal.returns-then-s-gt-MAX_PAYLOAD_BYTES
returns-then-s-gt-MAX_PAYLOAD_BYTES c = sym (read-large _ _ _ c.if-s-gt-MAX_PAYLOAD_BYTES.true).1

pub returns-then-count-gt32 : goal.returns-then-count-gt32
unfolding bits_read_at
returns-then-count-gt32 c = rw (le-ltb _ _ c.if-s-gt-MAX_PAYLOAD_BYTES.false, lt-ltb _ _ c.if-count-gt32.true)

pub returns : goal.returns
unfolding bits_read_at
returns c =
    rw (
      c.ok_or.ensures.value,
      field-told _,
      c.get_bits.ensures,
      le-ltb _ _ c.if-s-gt-MAX_PAYLOAD_BYTES.false,
      le-ltb _ _ c.if-count-gt32.false,
    )
