-- `samples::reading::decode_packed_samples_stereo_from_entropy` meets its contract: each way out is
-- a law of the entry.
-- Assumes nothing.
use native.Mathlib.Omega.{arith}
use mathlib.Core.Path.{◌∙◌}
use Rattle.answers.specs.declared.Refusal.{Refusal}
use Rattle.samples.proofs.EntryLaws.{refused-list, refused-seed, not_read, all_read}
use Rattle.samples.proofs.reading.decode_packed_samples_stereo_from_entropy.Goals as goal

pub returns-then-out-frames : goal.returns-then-out-frames
returns-then-out-frames c =
    not_read _ _ _ c.args.out.now _ Refusal.ListLength
    (refused-list _ _ _ c.args.out.now (omega arith) (omega arith) (λ e. omega arith))
    (c.not_read-then-out-frames.ensures.view c.args.out.now)

pub returns-in-Err : goal.returns-in-Err
returns-in-Err c =
    not_read _ _ _ c.args.out.now _ c.in-Err.refusal
    (c.in-Err.ensures.outcome ∙ refused-seed _ _ _ c.args.out.now (omega arith)
    (omega arith) (omega arith)) (c.not_read-in-Err.ensures.view c.args.out.now)

pub returns-in-Ok : goal.returns-in-Ok
returns-in-Ok c =
    let n =
    c.in-Ok.ensures.outcome
    ∙ refused-seed c.args.entropy.now c.args.payload.now c.args.frames c.args.out.now (omega arith)
    (omega arith) (omega arith) in
    all_read _ _ _ c.args.out.now _ _ n c.in-Ok.ensures.medians (omega arith)
    c.decode_packed_samples_stereo.ensures
