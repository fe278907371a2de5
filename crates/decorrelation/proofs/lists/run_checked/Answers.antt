use Rattle.std.proofs.lemmas.Result.{err_from_is_err_and}
use Rattle.decorrelation.proofs.Answers.{list-refused, list-accepted}
use Rattle.decorrelation.proofs.lists.run_checked.Goals as goal

pub returns-in_err-list_outcome : goal.returns-in_err-list_outcome
returns-in_err-list_outcome c =
    let a = c.args in
    let p = err_from_is_err_and c.from_residual.result c.from_residual.ensures.1 in
    rw (p.1, p.2) (list-refused a.direction a.passes.now a.buffer.now _ (rw (← c.all_valid-valid.ensures) c.list_outcome.ensures) _ c.in_err-list_outcome.was)

pub returns : goal.returns
returns c =
    let a = c.args in
    list-accepted a.direction a.passes.now a.buffer.now _ (rw (← c.all_valid-valid.ensures) c.list_outcome.ensures) c.in_ok-list_outcome.was c.run_list.ensures
