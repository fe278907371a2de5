-- `pack_refusals::refusal_before_span` meets its contract.
-- Assumes nothing.
use native.Mathlib.Omega.{arith}
use Rattle.std.proofs.lemmas.Result.{err_from_is_err_and}
use Rattle.packing.proofs.RefusalLaws.{before-list, before-seeds, before-room, before-none}
use Rattle.pack_refusals.proofs.refusal_before_span.Goals as goal

pub returns-then-elements-frames : goal.returns-then-elements-frames
returns-then-elements-frames c = before-list _ _ _ _ (omega arith) c.if-elements-frames.true

pub returns-in_err-stereo_pair_from_entropy : goal.returns-in_err-stereo_pair_from_entropy
returns-in_err-stereo_pair_from_entropy c =
    let p = err_from_is_err_and c.from_residual.result c.from_residual.ensures.1 in
    rw (p.1, p.2)
    (before-seeds _ _ _ _ (omega arith) c.if-elements-frames.false _
    c.in_err-stereo_pair_from_entropy.ensures.outcome)

pub returns-then-room-frames : goal.returns-then-room-frames
returns-then-room-frames c =
    before-room _ _ _ _ (omega arith) c.if-elements-frames.false
    c.in_ok-stereo_pair_from_entropy.ensures.outcome c.if-room-frames.true

pub returns : goal.returns
returns c =
    before-none _ _ _ _
    (record {
      frames_few = omega arith;
      list-is = c.if-elements-frames.false;
      seeded = c.in_ok-stereo_pair_from_entropy.ensures.outcome;
      enough = c.if-room-frames.false;
    })
