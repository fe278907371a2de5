-- `int32_deconstruction::deconstruct_refusal` meets its contract: 15 and 5 come first, then 11 and 16.
-- Assumes nothing.
use mathlib.Core.Path.{◌≡◌, sym, ap, ◌∙◌}
use mathlib.Core.Bool.{true, false}
use native.Mathlib.Omega.{arith}
use lib.ListN.{length}
use Rattle.std.proofs.lemmas.Result.{err_from_is_err_and}
use Rattle.int32_sample.specs.Setting.{Setting}
use Rattle.int32.specs.Info.{info_refusal}
use Rattle.int32.specs.Deconstruct.{all_reinsertable}
use Rattle.int32.proofs.InfoLaws.{info_fit}
use Rattle.int32.proofs.DeconstructLaws.{deconstruct_first, deconstruct_short, deconstruct_tested}
use Rattle.int32_deconstruction.proofs.deconstruct_refusal.Goals as goal

pub returns-in_err-info_refusal : goal.returns-in_err-info_refusal
returns-in_err-info_refusal c =
    let p = err_from_is_err_and c.from_residual.result c.from_residual.ensures.1 in
    rw (p.1, p.2) (deconstruct_first _ _ _ _ c.in_err-info_refusal.ensures)

pub returns-then-room-samples : goal.returns-then-room-samples
returns-then-room-samples c =
    let fine : info_refusal c.args.info (length c.args.samples.now) ≡ 0 =
    sym c.in_ok-info_refusal.ensures in
    deconstruct_short _ _ _ fine (omega arith)

pub redundant_bits-requires : goal.redundant_bits-requires
redundant_bits-requires c =
    let fine : info_refusal c.args.info (length c.args.samples.now) ≡ 0 =
    sym c.in_ok-info_refusal.ensures in
    (info_fit _ _ fine).0

pub returns-then-not-is_reinsertable : goal.returns-then-not-is_reinsertable
returns-then-not-is_reinsertable c =
    let fine : info_refusal c.args.info (length c.args.samples.now) ≡ 0 =
    sym c.in_ok-info_refusal.ensures in
    deconstruct_tested _ _ _ false fine c.if-room-samples.false
    (sym c.if-not-is_reinsertable.true ∙ c.is_reinsertable.ensures
    ∙ ap (λ (s : Setting). all_reinsertable s c.args.samples.now) c.redundant_bits.ensures)

pub returns : goal.returns
returns c =
    let fine : info_refusal c.args.info (length c.args.samples.now) ≡ 0 =
    sym c.in_ok-info_refusal.ensures in
    deconstruct_tested _ _ _ true fine c.if-room-samples.false
    (sym c.if-not-is_reinsertable.false ∙ c.is_reinsertable.ensures
    ∙ ap (λ (s : Setting). all_reinsertable s c.args.samples.now) c.redundant_bits.ensures)
