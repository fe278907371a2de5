-- `samples::reading::decode_packed_samples_stereo` meets its contract. The loop's invariant is
-- `PartsLoop`; a turn is a run or a sample.
-- Assumes nothing.
use Prim.Native.Nat.{◌-◌}
use lib.ListN.{length}
use Rattle.entropy.specs.Medians.{pair_of}
use Rattle.word_state.specs.State.{start}
use Rattle.samples.proofs.PartsLaws.{PartsLoop}
use Rattle.samples.proofs.reading.decode_packed_samples_stereo.Given as goal

abbrev pub invariant-loop-at : goal.invariant-loop-at
invariant-loop-at l =
    let seeds = pair_of l.initial.at.1.1.1.0 in
    PartsLoop l.payload l.initial.out (start seeds.left seeds.right) l.out l.at

abbrev pub decreases-loop-at : goal.decreases-loop-at
decreases-loop-at l = length l.initial.out - l.at.1.1.0
