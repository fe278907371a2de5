-- `morning_page::morning_page` meets its contract: a refusal that the tests found, or all lines.
-- Assumes nothing.
use mathlib.Core.Path.{sym}
use native.Mathlib.Omega.{arith}
use Rattle.std.proofs.lemmas.Result.{err_from_is_err_and}
use Rattle.answers.proofs.ListLaws.{frames_fit}
use Rattle.page_lines.proofs.CountLaws.{lines-few}
use Rattle.morning_page.proofs.EntryLaws.{page-refused, page-put}
use Rattle.morning_page.proofs.morning_page.Goals as goal

pub returns-in_err-page_refusal : goal.returns-in_err-page_refusal
returns-in_err-page_refusal c =
    let p = err_from_is_err_and c.from_residual.result c.from_residual.ensures.1 in
    rw (p.1, p.2) (page-refused _ _ _ _ c.in_err-page_refusal.ensures)

pub put_lines-written-requires : goal.put_lines-written-requires
put_lines-written-requires c =
    frames_fit _ _ _ (sym c.in_ok-page_refusal.ensures)

pub overflow_cast-result : goal.overflow_cast-result
overflow_cast-result c =
    let f = frames_fit _ _ _ (sym c.in_ok-page_refusal.ensures) in
    omega (arith, c.put_lines-written.ensures.width, lines-few _ f.few)

pub returns : goal.returns
returns c =
    page-put _ _ _ _ _ (sym c.in_ok-page_refusal.ensures)
    c.put_lines-written.ensures.text
