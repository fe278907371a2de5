-- `int32_deconstruction::deconstruct_int32` meets its contract: a refusal that the tests found, or the
-- samples without both kinds of bits and the literal ones in their storage.
-- Assumes nothing.
use mathlib.Core.Path.{◌≡◌, sym, ap, ◌∙◌}
use mathlib.Core.List.{map}
use native.Mathlib.Omega.{arith}
use lib.ListN.{length, length-map}
use Rattle.std.proofs.lemmas.Result.{err_from_is_err_and}
use Rattle.int32_sample.specs.declared.Redundancy.{Redundancy}
use Rattle.int32_sample.specs.Sample.{above}
use Rattle.int32_sample.specs.Setting.{width}
use Rattle.int32.specs.Info.{setting_of}
use Rattle.int32.specs.Deconstruct.{deconstruct_refusal}
use Rattle.int32.proofs.InfoLaws.{info_width, few_bits}
use Rattle.int32.proofs.DeconstructLaws.{divisible, deconstruct_refused, deconstruct_told}
use Rattle.int32_deconstruction.proofs.deconstruct_int32.Goals as goal

pub returns-in_err-deconstruct_refusal : goal.returns-in_err-deconstruct_refusal
returns-in_err-deconstruct_refusal c =
    let p = err_from_is_err_and c.from_residual.result c.from_residual.ensures.1 in
    rw (p.1, p.2) (deconstruct_refused _ _ _ _ c.in_err-deconstruct_refusal.ensures)

pub redundant_bits-requires : goal.redundant_bits-requires
redundant_bits-requires c =
    let none : deconstruct_refusal c.args.info c.args.samples.now (length c.args.literal.now) ≡ 0 =
    sym c.in_ok-deconstruct_refusal.ensures in
    let ready = divisible _ _ _ none in
    ready.fields

pub lay_literals-requires-clause-room : goal.lay_literals-requires-clause-room
lay_literals-requires-clause-room c =
    let none : deconstruct_refusal c.args.info c.args.samples.now (length c.args.literal.now) ≡ 0 =
    sym c.in_ok-deconstruct_refusal.ensures in
    let ready = divisible _ _ _ none in
    (ready.enough, ready.few)

pub lay_literals-requires-clause-widths : goal.lay_literals-requires-clause-widths
lay_literals-requires-clause-widths c =
    let none : deconstruct_refusal c.args.info c.args.samples.now (length c.args.literal.now) ≡ 0 =
    sym c.in_ok-deconstruct_refusal.ensures in
    let ready = divisible _ _ _ none in
    let count : c.redundancy_of-put.result.count ≡ width (setting_of c.args.info) =
    ap (λ (r : Redundancy). r.count) c.redundancy_of-put.ensures ∙ ap width c.redundant_bits.ensures in
    (rw count (info_width _ ready.fields), ready.fields.sent)

pub shorten-requires : goal.shorten-requires
shorten-requires c =
    let none : deconstruct_refusal c.args.info c.args.samples.now (length c.args.literal.now) ≡ 0 =
    sym c.in_ok-deconstruct_refusal.ensures in
    let ready = divisible _ _ _ none in
    let count : c.redundancy_of-put.result.count ≡ width (setting_of c.args.info) =
    ap (λ (r : Redundancy). r.count) c.redundancy_of-put.ensures ∙ ap width c.redundant_bits.ensures in
    (rw count (info_width _ ready.fields), ready.fields.sent)

pub overflow_cast-result : goal.overflow_cast-result
overflow_cast-result c =
    let none : deconstruct_refusal c.args.info c.args.samples.now (length c.args.literal.now) ≡ 0 =
    sym c.in_ok-deconstruct_refusal.ensures in
    let ready = divisible _ _ _ none in
    -- the samples are as many as before
    let as_many : length c.shorten.new.samples ≡ length c.args.samples.now =
    ap length c.shorten.ensures
    ∙ length-map (map (above c.redundancy_of-put.result.count) c.args.samples.now) _
    ∙ length-map c.args.samples.now _ in
    rw as_many (record { fits = omega (arith, ready.few) })

pub overflow_mul-result : goal.overflow_mul-result
overflow_mul-result c =
    let none : deconstruct_refusal c.args.info c.args.samples.now (length c.args.literal.now) ≡ 0 =
    sym c.in_ok-deconstruct_refusal.ensures in
    let ready = divisible _ _ _ none in
    -- the samples are as many as before
    let as_many : length c.shorten.new.samples ≡ length c.args.samples.now =
    ap length c.shorten.ensures
    ∙ length-map (map (above c.redundancy_of-put.result.count) c.args.samples.now) _
    ∙ length-map c.args.samples.now _ in
    rw as_many (record { fits = omega (arith, few_bits _ _ ready.fields ready.few) })

pub returns : goal.returns
returns c =
    let none : deconstruct_refusal c.args.info c.args.samples.now (length c.args.literal.now) ≡ 0 =
    sym c.in_ok-deconstruct_refusal.ensures in
    let count : c.redundancy_of-put.result.count ≡ width (setting_of c.args.info) =
    ap (λ (r : Redundancy). r.count) c.redundancy_of-put.ensures ∙ ap width c.redundant_bits.ensures in
    -- the samples are as many as before
    let as_many : length c.shorten.new.samples ≡ length c.args.samples.now =
    ap length c.shorten.ensures
    ∙ length-map (map (above c.redundancy_of-put.result.count) c.args.samples.now) _
    ∙ length-map c.args.samples.now _ in
    deconstruct_told c.args.info c.args.samples.now c.args.literal.now c.redundancy_of-put.result.count _ _
    none count as_many c.shorten.ensures c.lay_literals.ensures
