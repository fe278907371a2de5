-- `int32_redundancy::put_copies` meets its contract. The loop's invariant: the first i samples have
-- their copies, and were numbers of 32 bits.
-- Assumes nothing.
use Rattle.int32_sample.specs.Setting.{dups, reinsert}
use Rattle.int32.proofs.InPlace.{Replaced, Read}
use Rattle.int32_redundancy.proofs.put_copies.Given as goal

abbrev pub invariant-loop-sample : goal.invariant-loop-sample
invariant-loop-sample l = Replaced (λ _ x. reinsert (dups l.count) x) l.initial.samples l.samples l.sample-index
    × Read l.initial.samples l.sample-index
