-- `short_steps::short_step` meets its contract, by `either_step`.
-- Assumes nothing.
use native.Mathlib.Omega.{arith}
use Rattle.readings.proofs.CostLaws.{either-stem}
use Rattle.short_steps.proofs.OnwardLaws.{either_step}
use Rattle.short_steps.proofs.short_step.Goals as goal

pub overflow_add-left_bits : goal.overflow_add-left_bits
overflow_add-left_bits g c =
    let t = c.short_word.ensures.word c.in-Some.word c.in-Some.is in
    omega (arith, t.most, c.side.ensures, either-stem g.row.CHANNEL c.in-Some.word.used)

pub stepped-requires-clause-some : goal.stepped-requires-clause-some
stepped-requires-clause-some g c = (c.short_word.ensures.word c.in-Some.word c.in-Some.is).some

pub stepped-requires-clause-most : goal.stepped-requires-clause-most
stepped-requires-clause-most g c = (c.short_word.ensures.word c.in-Some.word c.in-Some.is).most

pub returns : goal.returns
returns g c =
    let t = rw (c.side-due.ensures, c.side-other.ensures) at (c.short_word.ensures.word c.in-Some.word c.in-Some.is) in
    let s = rw (c.side.ensures, c.side-left.ensures, c.side-right.ensures) at c.stepped.ensures in
    either_step c.args.payload.now c.args.out.now _ c.args.from c.args.w (omega arith)
    c.requires.ready _ _ g.row.CHANNEL c.requires.channel t s
