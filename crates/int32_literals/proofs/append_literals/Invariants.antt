-- `int32_literals::append_literals` meets its contract. The loop's invariant: the first i samples
-- have their literal bits.
-- Assumes nothing.
use Rattle.bits.specs.Bits.{bits_of}
use Rattle.int32.proofs.InPlace.{Replaced}
use Rattle.int32_literals.proofs.LiteralLaws.{append_at}
use Rattle.int32_literals.proofs.append_literals.Given as goal

abbrev pub invariant-loop-i : goal.invariant-loop-i
invariant-loop-i l = Replaced (append_at l.count (bits_of l.literal)) l.initial.samples l.samples l.i
