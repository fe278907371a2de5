-- The text lies within the buffer, by the law of every text that `wvpair_text` answers.
-- Assumes nothing.
use Rattle.std.proofs.Common.{arith, sym, length-take-le}
use Rattle.wvpair_text.proofs.ShortLaws.{answer-short}
use Rattle.wvpair.proofs.main.Goals as goal

pub slice_bounds-out-end : goal.slice_bounds-out-end
slice_bounds-out-end c =
    omega (arith, answer-short _ _ _ _ c.wvpair_text.ensures, c.unwrap_or-length.ensures, c.wvpair_text.auto.out)

pub slice_bounds-write_all-end : goal.slice_bounds-write_all-end
slice_bounds-write_all-end c =
    sym (length-take-le _ _
    (omega (arith, answer-short _ _ _ _ c.wvpair_text.ensures, c.unwrap_or-length.ensures, c.wvpair_text.auto.out)))
