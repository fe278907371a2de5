-- `archive_writer::head_bytes` meets its contract.
-- Assumes nothing.
use mathlib.Core.Path.{◌≡◌}
use borrow.Author.Rules.{rules}
use Rattle.little_endian.specs.LittleEndian.{little_endian}
use Rattle.archive_writer.proofs.HeadLaws.{head-is}
use Rattle.archive_writer.proofs.head_bytes.Goals as goal

pub returns : goal.returns
unfolding little_endian
returns c =
    let whose : c.to_le_bytes.result ≡ little_endian 2 c.args.house = search rules in
    let when : c.to_le_bytes-2.result ≡ little_endian 4 c.args.start = search rules in
    let which : c.to_le_bytes-3.result ≡ little_endian 2 c.args.issue = search rules in
    let long : c.to_le_bytes-4.result ≡ little_endian 4 c.args.length = search rules in
    head-is _ _ _ _ _ _ _ _ whose when which long
