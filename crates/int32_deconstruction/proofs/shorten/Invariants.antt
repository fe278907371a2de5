-- `int32_deconstruction::shorten` meets its contract. The loop's invariant: the first i samples are
-- shifted.
-- Assumes nothing.
use Rattle.int32_sample.specs.Sample.{above}
use Rattle.int32.proofs.InPlace.{Replaced}
use Rattle.int32_deconstruction.proofs.shorten.Given as goal

abbrev pub invariant-loop-sample : goal.invariant-loop-sample
invariant-loop-sample l = Replaced (λ _ x. above l.count (above l.shift x)) l.initial.samples l.samples l.sample-index
