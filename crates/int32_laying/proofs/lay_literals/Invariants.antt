-- `int32_laying::lay_literals` meets its contract. The loop's invariant is `Laying`, with under
-- 32 bits held.
-- Assumes nothing.
use Prim.Native.Nat.{◌<◌}
use Rattle.bits.proofs.LaidLaws.{Bytes}
use Rattle.int32_laying.proofs.LayLaws.{Laying}
use Rattle.int32_laying.proofs.lay_literals.Given as goal

abbrev pub invariant-loop-sample : goal.invariant-loop-sample
invariant-loop-sample l = (l.filled < 32) × Bytes l.out × Laying l.samples l.shift l.count l.initial.out l.out l.held l.filled l.at l.sample-index
