-- `page_lines::line_count` meets its contract.
-- Assumes nothing.
use native.Mathlib.Omega.{arith}
use Rattle.page_lines.specs.Page.{line_count}
use Rattle.page_lines.proofs.line_count.Goals as goal

pub returns : goal.returns
unfolding line_count
returns c = omega (arith, c.div_ceil.ensures)
