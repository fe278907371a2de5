-- `recording_heads::read_head` meets its contract.
-- Assumes nothing.
use mathlib.Core.Path.{sym, ap, ◌∙◌}
use native.Mathlib.Omega.{arith}
use Rattle.little_endian.specs.LittleEndian.{from_little_endian}
use Rattle.recording_heads.proofs.HeadLaws.{two-there, four-there}
use Rattle.recording_heads.proofs.read_head.Goals as goal

pub returns : goal.returns
returns c =
    let file = c.args.file.now in
    let at = c.args.at in
    record {
      house = c.short_number.ensures ∙ ap from_little_endian (sym (two-there file at 4 (omega arith)));
      start = c.number.ensures ∙ ap from_little_endian (sym (four-there file at 6 (omega arith)));
      issue = c.short_number-2.ensures ∙ ap from_little_endian (sym (two-there file at 10 (omega arith)));
      payload = c.number-2.ensures ∙ ap from_little_endian (sym (four-there file at 12 (omega arith)));
    }
