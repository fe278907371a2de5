-- `words::coded::try_zero_run_path_stereo` meets its contract: each way out is a law of the run
-- length.
-- Assumes nothing.
use native.Mathlib.Omega.{arith}
use mathlib.Core.Path.{sym, ◌∙◌}
use Rattle.bits.specs.Bits.{bits_of}
use Rattle.words.proofs.PartLaws.{missing, run_skipped, run-missing, run-zero, run-some}
use Rattle.words.proofs.coded.try_zero_run_path_stereo.Goals as goal

pub returns-then-not-eligible : goal.returns-then-not-eligible
returns-then-not-eligible c =
    rw c.if-not-eligible.true (run_skipped (bits_of c.args.payload.now) c.args.place)

pub returns-in_err-run : goal.returns-in_err-run
returns-in_err-run c =
    let e = c.in_err-run.ensures in
    rw (missing _ _ c.from_residual.ensures.1 e.value e.ok_part, c.if-not-eligible.false)
    (run-missing (bits_of c.args.payload.now) c.args.place (sym c.read_zero_run_length.ensures ∙ e.ok_part))

pub returns-then-run-eq0 : goal.returns-then-run-eq0
returns-then-run-eq0 c =
    rw c.if-not-eligible.false
    (run-zero (bits_of c.args.payload.now) c.args.place _ _
    (sym c.read_zero_run_length.ensures ∙ c.in_ok-run.ensures.ok_part) (omega arith))

pub returns : goal.returns
returns c =
    rw c.if-not-eligible.false
    (run-some (bits_of c.args.payload.now) c.args.place _ _
    (sym c.read_zero_run_length.ensures ∙ c.in_ok-run.ensures.ok_part) (omega arith))
