-- `stereo_pair::stereo_pair_from_entropy` meets its contract: one law for each of its three answers.
-- Assumes nothing.
use mathlib.Core.Path.{sym, ◌∙◌}
use Rattle.answers.proofs.NumberLaws.{number-positive}
use Rattle.entropy.proofs.SeedLaws.{length-refused, not_stereo_lem, accepted-raw, stereo-raw}
use Rattle.std.proofs.lemmas.Result.{err_from_is_err_and}
use Rattle.stereo_pair.proofs.stereo_pair_from_entropy.Goals as goal

pub seed_set-requires : goal.seed_set-requires
seed_set-requires c =
    (stereo-raw _ _ c.in_ok-info.ensures.info (sym c.is_not_stereo.ensures ∙ c.if-is_not_stereo.false)).left

pub seed_set-requires-2 : goal.seed_set-requires-2
seed_set-requires-2 c =
    (stereo-raw _ _ c.in_ok-info.ensures.info (sym c.is_not_stereo.ensures ∙ c.if-is_not_stereo.false)).right

pub returns-in_err-info : goal.returns-in_err-info
returns-in_err-info c =
    let p = err_from_is_err_and c.from_residual.result c.from_residual.ensures.1 in
    let all = length-refused _ _ (number-positive _) c.in_err-info.ensures.outcome in
    rw (p.1, p.2) (record { outcome = all.0; medians = all.1 })

pub returns-then-is_not_stereo : goal.returns-then-is_not_stereo
returns-then-is_not_stereo c =
    let all = not_stereo_lem _ c.in_ok-info.ensures.outcome (sym c.is_not_stereo.ensures ∙ c.if-is_not_stereo.true) in
    record { outcome = all.0; medians = all.1 }

pub returns : goal.returns
returns c =
    let x = c.in_ok-info.ensures in
    let all = accepted-raw _ _ _ _ x.outcome x.info (sym c.is_not_stereo.ensures ∙ c.if-is_not_stereo.false)
    c.seed_set.ensures c.seed_set-2.ensures in
    record { outcome = all.0; medians = all.1 }
