-- `short_words::short_word` meets its contract: a word behind an announced zero, with fewer than two
-- ones, or with more.
-- Assumes nothing.
use borrow.Author.Rules.{rules}
use native.Mathlib.Omega.{arith}
use mathlib.Core.Path.{◌∙◌}
use mathlib.Core.Bool.{true, false}
use Rattle.bits.proofs.OnesLaws.{trailing_ones}
use Rattle.entropy.specs.Medians.{medians_of}
use Rattle.short_words.proofs.ShortLaws.{few, short-prefix, few-counted}
use Rattle.short_words.proofs.ShortLaws.{given_counted, not-given}
use Rattle.words.proofs.PartLaws.{flag-is}
use Rattle.short_words.proofs.short_word.Goals as goal

pub counted_word-requires : goal.counted_word-requires
counted_word-requires g c =
    short-prefix _ _ 1 _ _ (medians_of c.args.medians) (few _ (search rules))
    (omega arith) c.sample_interval.ensures

pub returns-then-last_one : goal.returns-then-last_one
returns-then-last_one g c =
    rw (c.if-last_zero.false, c.if-last_one.true)
    (given_counted c.args.w _ _ _ _ _ (few c.args.w (search rules)) (omega arith)
    (few-counted c.args.w _ _ _ _ _ c.counted_word.ensures (omega arith) (medians_of c.args.medians)
    (medians_of c.args.other) true c.sample_interval.ensures c.adapt.ensures))

pub counted_word-requires-then-w-ne3 : goal.counted_word-requires-then-w-ne3
counted_word-requires-then-w-ne3 g c =
    short-prefix _ _ 0 _ _ (medians_of c.args.medians) (few _ (search rules))
    (omega arith) c.sample_interval-then-w-ne3.ensures

pub returns-then-w-ne3 : goal.returns-then-w-ne3
returns-then-w-ne3 g c =
    rw (c.if-last_zero.false, c.if-last_one.false)
    (given_counted c.args.w _ _ _ _ _ (few c.args.w (search rules)) (omega arith)
    (few-counted c.args.w _ _ _ _ _ c.counted_word-then-w-ne3.ensures (omega arith)
    (medians_of c.args.medians) (medians_of c.args.other) false c.sample_interval-then-w-ne3.ensures
    c.adapt-then-w-ne3.ensures))

pub returns-then-ones-gt15 : goal.returns-then-ones-gt15
returns-then-ones-gt15 g c =
    rw c.if-last_zero.false (not-given c.args.w _ _ _ _ (trailing_ones 64 c.args.w (omega arith)) (omega arith))

pub counted_word-requires-2 : goal.counted_word-requires-2
counted_word-requires-2 g c =
    short-prefix _ _ _ _ _ (medians_of c.args.medians) (trailing_ones 64 c.args.w (omega arith))
    (omega arith) c.sample_interval-2.ensures

pub returns : goal.returns
returns g c =
    let e = c.from.ensures ∙ flag-is c.args.last_one in
    rw c.if-last_zero.false
    (given_counted c.args.w _ _ _ _ _ (trailing_ones 64 c.args.w (omega arith)) (omega arith)
    (c.counted_word-2.ensures.is (medians_of c.args.medians) (medians_of c.args.other) c.args.last_one
    (rw e at c.sample_interval-2.ensures) (rw e at c.adapt-2.ensures)))
