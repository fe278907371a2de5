use Rattle.std.proofs.lemmas.Result.{err_from_is_err_and}
use Rattle.decorrelation.proofs.Answers.{array_refused, array_few, array_accepted}
use Rattle.decorrelation.proofs.arrays.array_answer.Goals as goal

pub returns-in_err-analysis_refusal : goal.returns-in_err-analysis_refusal
returns-in_err-analysis_refusal c =
    let a = c.args in
    let p = err_from_is_err_and c.from_residual.result c.from_residual.ensures.1 in
    rw (p.1, p.2) (array_refused a.direction a.passes a.count a.buffer.now _ c.analysis_refusal.ensures _ c.in_err-analysis_refusal.was)

pub run_array-requires : goal.run_array-requires
run_array-requires c =
    let a = c.args in
    array_few a.direction a.passes a.count a.buffer.now _ c.analysis_refusal.ensures c.in_ok-analysis_refusal.was

pub returns : goal.returns
returns c =
    let a = c.args in
    array_accepted a.direction a.passes a.count a.buffer.now _ c.analysis_refusal.ensures c.in_ok-analysis_refusal.was c.run_array.ensures
