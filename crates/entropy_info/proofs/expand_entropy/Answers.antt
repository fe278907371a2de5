-- `entropy_info::expand_entropy` meets its contract: one law for each of the three kinds of length.
-- Assumes nothing.
use mathlib.Core.Path.{refl, sym, ◌∙◌}
use native.Mathlib.Omega.{arith}
use Rattle.entropy.proofs.EntropyLaws.{mono-length, mono-answer, stereo-answer, no_answer}
use Rattle.entropy_info.proofs.expand_entropy.Goals as goal

pub read_median_set-left-requires : goal.read_median_set-left-requires
read_median_set-left-requires c =
    let h = mono-length _ (sym c.is_mono.ensures ∙ c.if-is_mono.true) in omega arith

pub returns-then-is_mono : goal.returns-then-is_mono
returns-then-is_mono c =
    let l = c.read_median_set-left in
    let b = c.both_sets.ensures in
    let h = sym c.is_mono.ensures ∙ c.if-is_mono.true in
    let all = mono-answer c.args.payload.now l.result h l.ensures.outcome l.ensures.medians b.outcome
    b.info in
    record { outcome = all.0; info = all.1 }

pub returns-then-payload-eq12 : goal.returns-then-payload-eq12
returns-then-payload-eq12 c =
    let l = c.read_median_set-left-then-payload-eq12 in
    let r = c.read_median_set-right in
    let b = c.both_sets-then-payload-eq12.ensures in
    let all =
    stereo-answer c.args.payload.now l.result r.result c.if-payload-eq12.true
    l.ensures.outcome l.ensures.medians r.ensures.outcome r.ensures.medians b.outcome b.info in
    record { outcome = all.0; info = all.1 }

pub returns : goal.returns
returns c =
    let h = sym c.is_mono.ensures ∙ c.if-is_mono.false in
    let all =
    no_answer c.args.payload.now h c.if-payload-eq12.false refl refl in
    record { outcome = all.0; info = all.1 }
