-- `count_reading::read_zero_run_length` meets its contract: each way out is the definition,
-- rewritten with the tests and the count on the way.
-- Assumes nothing.
use native.Mathlib.Omega.{arith}
use mathlib.Core.Path.{sym, ◌∙◌}
use borrow.Author.Tests.{lt-ltb, le-ltb}
use Rattle.fields.specs.Counts.{run_length}
use Rattle.count_reading.proofs.read_zero_run_length.Goals as goal

pub returns-in_err-ones : goal.returns-in_err-ones
unfolding run_length
returns-in_err-ones c = rw (c.from_residual.ensures, sym c.get_unary.ensures ∙ c.in_err-ones.was)

pub returns-then-ones-ge33 : goal.returns-then-ones-ge33
unfolding run_length
returns-then-ones-ge33 c =
    rw (sym c.get_unary.ensures ∙ c.in_ok-ones.was, le-ltb c.in_ok-ones.ones 33 (omega arith))

pub returns : goal.returns
unfolding run_length
returns c =
    rw (sym c.get_unary.ensures ∙ c.in_ok-ones.was, lt-ltb c.in_ok-ones.ones 33 (omega arith))
    c.read_counted.ensures
