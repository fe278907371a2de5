-- `short_words::counted_word` meets its contract, by `counted_is`.
-- Assumes nothing.
use borrow.Author.Rules.{rules}
use mir.Facts.{to_z-of_z}
use mir.Syntax.{w32}
use mir.Val.{SFits}
use Rattle.short_words.proofs.ShortLaws.{counted_is}
use Rattle.short_words.proofs.counted_word.Goals as goal

pub returns : goal.returns
returns c =
    let f : SFits w32 c.signed_code-got.result.value = search rules in
    rw (to_z-of_z f) (counted_is c.args.w c.args.ones c.args.interval.low c.args.interval.high c.requires
    c.args.after _ _ c.signed_code-got.ensures)
