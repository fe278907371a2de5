-- `make_pass` meets its contract: one law for each of its answers.
-- Assumes nothing.
use mathlib.Core.Path.{refl}
use mir.Syntax.{w8, w32}
use mir.ValLaws.{to_z-of_z}
use Rattle.std.proofs.lemmas.Result.{err_from_is_err_and}
use Rattle.made_slots.proofs.MakePassLaws.{pass-refused, pass-made}
use Rattle.made_slots.proofs.make_pass.Goals as goal

pub returns-in_err-made-clause-answer : goal.returns-in_err-made-clause-answer
returns-in_err-made-clause-answer c =
    let a = c.args in
    let f = c.ranges in
    let told = rw (
      to_z-of_z w8 a.term f.term,
      to_z-of_z w32 a.delta f.delta,
      to_z-of_z w32 a.weight_a f.weight_a,
      to_z-of_z w32 a.weight_b f.weight_b,
    ) at c.in_err-made.ensures in
    let p = err_from_is_err_and c.from_residual.result c.from_residual.ensures.1 in
    rw (p.1, p.2)
    (pass-refused a.term a.delta a.weight_a a.weight_b a.seed_a.now a.seed_b.now a.pass.now
    _ _ told c.if-pass-lt-PASS_SLOTS.false _ refl).0

pub returns-clause-answer : goal.returns-clause-answer
returns-clause-answer c =
    let a = c.args in
    let f = c.ranges in
    let told = rw (
      to_z-of_z w8 a.term f.term,
      to_z-of_z w32 a.delta f.delta,
      to_z-of_z w32 a.weight_a f.weight_a,
      to_z-of_z w32 a.weight_b f.weight_b,
    ) at c.in_ok-made.ensures in
    (pass-made a.term a.delta a.weight_a a.weight_b a.seed_a.now a.seed_b.now a.pass.now
    _ _ told c.if-pass-lt-PASS_SLOTS.false _ _ refl c.pass_slots.ensures c.lay.ensures).0
