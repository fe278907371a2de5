-- `archive_writer::write_recording` meets its contract: one law for each of its answers.
-- Assumes nothing.
use native.Mathlib.Omega.{arith}
use Rattle.archive_writer.proofs.WriteLaws.{write_long, write_short, write_done}
use Rattle.archive_writer.proofs.write_recording.Goals as goal

pub returns-then-payload-gt-MAX_PAYLOAD_BYTES : goal.returns-then-payload-gt-MAX_PAYLOAD_BYTES
returns-then-payload-gt-MAX_PAYLOAD_BYTES c = write_long _ _ (omega arith)

pub returns-then-out-count : goal.returns-then-out-count
returns-then-out-count c = write_short _ _ (omega arith) (omega arith)

pub returns : goal.returns
returns c =
    let count = c.div_ceil-count.ensures in
    write_done _ _ _ _ _ (omega arith) (omega arith) (omega arith) c.head_bytes-front.ensures
    c.lay_blocks.ensures
