-- What is printed lies within the page, by the law of every page that `input_page` answers.
-- Assumes nothing.
use Rattle.std.proofs.Common.{sym, length-take-le}
use Rattle.morning_page.proofs.EntryLaws.{answer-within}
use Rattle.morning_text.proofs.InputLaws.{input_within}
use Rattle.morning.proofs.print_input.Goals as goal

pub slice_bounds-page-end : goal.slice_bounds-page-end
slice_bounds-page-end g c =
    rw c.in-Ok.is at (answer-within c.input_page.result _ _ c.input_page.ensures (input_within _ _ _))

pub slice_bounds-print-end : goal.slice_bounds-print-end
slice_bounds-print-end g c =
    sym (length-take-le _ _
    (rw c.in-Ok.is at (answer-within c.input_page.result _ _ c.input_page.ensures (input_within _ _ _))))
