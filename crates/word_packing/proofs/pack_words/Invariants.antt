-- `word_packing::pack_words` meets its contract: what is written and what is left, from the
-- state that the locals hold, is the whole.
-- Assumes nothing.
use Prim.Native.Nat.{◌-◌}
use lib.ListN.{length}
use Rattle.entropy.specs.Medians.{pair_of}
use Rattle.word_state.specs.State.{start}
use Rattle.packing.proofs.LoopLaws.{Loop}
use Rattle.word_packing.proofs.pack_words.Given as goal

abbrev pub invariant-loop-i : goal.invariant-loop-i
invariant-loop-i l = Loop l.initial.out l.residuals
    (start (pair_of l.initial.medians).left (pair_of l.initial.medians).right) l.out l.medians l.bits
    l.last_zero l.last_one l.run_break l.i

abbrev pub decreases-loop-i : goal.decreases-loop-i
decreases-loop-i l = length l.residuals - l.i
