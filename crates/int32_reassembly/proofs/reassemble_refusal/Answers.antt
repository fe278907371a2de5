-- `int32_reassembly::reassemble_refusal` meets its contract: 15 and 5 come first, then 3. Whole
-- bytes are counted, so that no number of literal bytes is too large.
-- Assumes nothing.
use mathlib.Core.Path.{◌≡◌, sym}
use native.Mathlib.Omega.{arith}
use Rattle.std.proofs.lemmas.Result.{err_from_is_err_and}
use Rattle.int32.specs.Info.{info_refusal}
use Rattle.int32.proofs.InfoLaws.{info_fit, few_bits}
use Rattle.int32.proofs.ReassembleLaws.{reassemble_first, reassemble_short, reassemble_none}
use Rattle.int32_reassembly.proofs.reassemble_refusal.Goals as goal

pub returns-in_err-info_refusal : goal.returns-in_err-info_refusal
returns-in_err-info_refusal c =
    let p = err_from_is_err_and c.from_residual.result c.from_residual.ensures.1 in
    rw (p.1, p.2) (reassemble_first _ _ _ _ c.in_err-info_refusal.ensures)

pub overflow_mul-samples : goal.overflow_mul-samples
overflow_mul-samples c =
    let fine : info_refusal c.args.info c.args.samples ≡ 0 =
    sym c.in_ok-info_refusal.ensures in
    let f = info_fit _ _ fine in
    record { fits = omega (arith, few_bits _ _ f.0 f.1) }

pub returns-then-room-div_ceil : goal.returns-then-room-div_ceil
returns-then-room-div_ceil c =
    let fine : info_refusal c.args.info c.args.samples ≡ 0 =
    sym c.in_ok-info_refusal.ensures in
    reassemble_short c.args.info c.args.samples c.args.room fine (omega (arith, c.div_ceil.ensures))

pub returns : goal.returns
returns c =
    let fine : info_refusal c.args.info c.args.samples ≡ 0 =
    sym c.in_ok-info_refusal.ensures in
    reassemble_none c.args.info c.args.samples c.args.room fine (omega (arith, c.div_ceil.ensures))
