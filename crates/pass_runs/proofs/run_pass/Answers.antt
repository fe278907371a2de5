-- `run_pass` meets its contract: each arm of its match by the law of its term. Assumes nothing.
use mathlib.Core.Path.{◌∙◌}
use borrow.Author.Rules.{rules}
use Rattle.passes.specs.declared.Term.TheVariants.{Lag, Seventeen, Eighteen, MinusOne, MinusTwo, MinusThree, Invalid}
use Rattle.pass_runs.proofs.PassLaws.{passed-by, invalid_run}
use Rattle.pass_runs.proofs.run_pass.Goals as goal

pub returns-in-Lag : goal.returns-in-Lag
returns-in-Lag c =
    passed-by c.args.direction c.args.start c.args.buffer.now (Lag _) c.term_of-t.ensures c.in-Lag.is c.run_lag.ensures (search rules)

pub returns-in-Seventeen : goal.returns-in-Seventeen
returns-in-Seventeen c =
    passed-by c.args.direction c.args.start c.args.buffer.now Seventeen c.term_of-t.ensures c.in-Seventeen.is c.run_two.ensures (search rules)

pub returns-in-Eighteen : goal.returns-in-Eighteen
returns-in-Eighteen c =
    passed-by c.args.direction c.args.start c.args.buffer.now Eighteen c.term_of-t.ensures c.in-Eighteen.is c.run_two-in-Eighteen.ensures (search rules)

pub returns-in-MinusOne : goal.returns-in-MinusOne
returns-in-MinusOne c =
    passed-by c.args.direction c.args.start c.args.buffer.now MinusOne c.term_of-t.ensures c.in-MinusOne.is c.run_cross.ensures (search rules)

pub returns-in-MinusTwo : goal.returns-in-MinusTwo
returns-in-MinusTwo c =
    passed-by c.args.direction c.args.start c.args.buffer.now MinusTwo c.term_of-t.ensures c.in-MinusTwo.is c.run_cross-in-MinusTwo.ensures (search rules)

pub returns-in-MinusThree : goal.returns-in-MinusThree
returns-in-MinusThree c =
    passed-by c.args.direction c.args.start c.args.buffer.now MinusThree c.term_of-t.ensures c.in-MinusThree.is c.run_swap.ensures (search rules)

pub returns-in-Invalid : goal.returns-in-Invalid
returns-in-Invalid c =
    passed-by c.args.direction c.args.start c.args.buffer.now Invalid c.term_of-t.ensures c.in-Invalid.is (c.run_lag-in-Invalid.ensures ∙ invalid_run c.args.direction c.args.start 0 c.args.buffer.now) (search rules)
