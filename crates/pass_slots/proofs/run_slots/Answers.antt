-- One law for each of the four answers.
use Rattle.std.proofs.Common.{rules, arith, refl, ◌≡◌, length, eq-eqb, ne_eqb}
use Rattle.std.proofs.lemmas.Result.{err_from_is_err_and}
use Rattle.pass_slots.proofs.CallLaws.{call-short, call-many, call-refused, call-accepted}
use Rattle.pass_slots.proofs.run_slots.Goals as goal

pub returns-then-slots-ne0 : goal.returns-then-slots-ne0
returns-then-slots-ne0 c =
    let a = c.args in
    call-short a.direction a.passes.now a.buffer.now (ne_eqb _ 0 c.if-slots-ne0.true)

pub returns-then-count-gt-MAX_PASSES : goal.returns-then-count-gt-MAX_PASSES
returns-then-count-gt-MAX_PASSES c =
    let a = c.args in
    call-many a.direction a.passes.now a.buffer.now _ refl (eq-eqb _ 0 c.if-slots-ne0.false)
    _ c.list_outcome.ensures c.if-count-gt-MAX_PASSES.true

pub returns-in_err-after : goal.returns-in_err-after
returns-in_err-after c =
    let a = c.args in
    let held = c.passes_in in
    let n : length held.result ≡ 16 = search rules in
    let p = err_from_is_err_and c.from_residual.result c.from_residual.ensures.1 in
    rw (p.1, p.2)
    (call-refused a.direction a.passes.now a.buffer.now _ refl (eq-eqb _ 0 c.if-slots-ne0.false)
    held.result _ _ _ (omega (arith, n)) held.ensures c.in_err-after.ensures _ refl)

pub returns : goal.returns
returns c =
    let a = c.args in
    let held = c.passes_in in
    let n : length held.result ≡ 16 = search rules in
    call-accepted a.direction a.passes.now a.buffer.now _ refl (eq-eqb _ 0 c.if-slots-ne0.false)
    held.result _ _ _ (omega (arith, n)) held.ensures c.in_ok-after.ensures
    _ refl c.lay_passes.ensures
