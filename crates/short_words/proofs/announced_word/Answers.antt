-- `short_words::announced_word` meets its contract, by `announced_is`.
-- Assumes nothing.
use borrow.Author.Rules.{rules}
use native.Mathlib.Omega.{arith}
use mir.Facts.{to_z-of_z}
use mir.Syntax.{w32}
use mir.Val.{SFits}
use Rattle.entropy.specs.Medians.{medians_of}
use Rattle.medians.proofs.IntervalLaws.{told-ends}
use Rattle.short_words.proofs.ShortLaws.{announced_is}
use Rattle.short_words.proofs.announced_word.Goals as goal

pub overflow_sub-interval : goal.overflow_sub-interval
overflow_sub-interval c = (told-ends _ _ _ _ c.sample_interval-interval.ensures).ordered

pub returns : goal.returns
returns c =
    let f : SFits w32 c.signed_code-got.result.value = search rules in
    rw (to_z-of_z f)
    (announced_is c.args.w _ _ (medians_of c.args.medians)
    (medians_of c.args.other) c.args.last_one c.sample_interval-interval.ensures _ c.adapt-after.ensures _
    _ c.signed_code-got.ensures _ c.zero_run_eligible.ensures)

pub signed_code-got-requires-clause-interval : goal.signed_code-got-requires-clause-interval
signed_code-got-requires-clause-interval c =
    omega (arith, told-ends _ _ _ _ c.sample_interval-interval.ensures)

pub signed_code-got-requires-clause-last : goal.signed_code-got-requires-clause-last
signed_code-got-requires-clause-last c =
    (told-ends _ _ _ _ c.sample_interval-interval.ensures).last
