-- `pack_entry::encode_packed_samples_stereo_from_entropy` meets its contract.
-- Assumes nothing.
use mathlib.Core.Path.{sym, ◌∙◌}
use native.Mathlib.Omega.{arith}
use Rattle.answers.proofs.NumberLaws.{number-positive}
use Rattle.std.proofs.lemmas.Result.{err_from_is_err_and}
use Rattle.packing.proofs.RefusalLaws.{ready}
use Rattle.packing.proofs.EntryLaws.{refuses-before, refuses-span, accepts}
use Rattle.pack_entry.proofs.encode_packed_samples_stereo_from_entropy.Goals as goal

pub returns-in_err-refusal_before_span : goal.returns-in_err-refusal_before_span
returns-in_err-refusal_before_span c =
    let p = err_from_is_err_and c.from_residual.result c.from_residual.ensures.1 in
    rw (p.1, p.2) (refuses-before _ _ _ _ _ c.in_err-refusal_before_span.ensures)

pub is_within-requires : goal.is_within-requires
is_within-requires c = let r = ready _ _ _ _ (sym c.in_ok-refusal_before_span.ensures) in omega arith

pub returns-then-not-is_within : goal.returns-then-not-is_within
returns-then-not-is_within c =
    refuses-span _ _ _ _ (ready _ _ _ _ (sym c.in_ok-refusal_before_span.ensures))
    (sym c.is_within.ensures ∙ c.if-not-is_within.true)

-- the entropy payload was accepted before
pub returns-in_err-seeds : goal.returns-in_err-seeds
returns-in_err-seeds c =
    let r = ready _ _ _ _ (sym c.in_ok-refusal_before_span.ensures) in
    absurd (omega (arith, c.in_err-seeds.ensures.outcome, r.seeded, number-positive c.in_err-seeds.field-0.0))

pub returns : goal.returns
returns c =
    accepts _ _ _ _ _ _ _
    (record {
      before = ready _ _ _ _ (sym c.in_ok-refusal_before_span.ensures);
      span = sym c.is_within.ensures
          ∙ c.if-not-is_within.false;
    })
    c.in_ok-seeds.ensures.medians c.pack_words.ensures

pub pack_words-requires-clause-room : goal.pack_words-requires-clause-room
pack_words-requires-clause-room c = let r = ready _ _ _ _ (sym c.in_ok-refusal_before_span.ensures) in
    (omega arith, omega arith)
