-- The lines, and behind them the `end` line.
-- Assumes nothing.
use native.Mathlib.Omega.{arith}
use Rattle.wvpair_lines.specs.Lines.{report}
use Rattle.decimal.proofs.PutLaws.{put_on}
use Rattle.wvpair_lines.proofs.put_report.Goals as goal

pub returns : goal.returns
unfolding report
returns c =
    put_on (omega arith) c.put_lines-last.ensures.text c.put_end.ensures
