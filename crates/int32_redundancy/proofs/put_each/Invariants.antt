-- `int32_redundancy::put_each` meets its contract. The loop's invariant: the first i samples have
-- their bits, and were numbers of 32 bits.
-- Assumes nothing.
use Rattle.int32_sample.specs.Sample.{below}
use Rattle.int32.proofs.InPlace.{Replaced, Read}
use Rattle.int32_redundancy.proofs.put_each.Given as goal

abbrev pub invariant-loop-sample : goal.invariant-loop-sample
invariant-loop-sample l = Replaced (λ _ x. below l.count l.n x) l.initial.samples l.samples l.sample-index
    × Read l.initial.samples l.sample-index
