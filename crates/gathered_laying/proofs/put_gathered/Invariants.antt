-- `put_gathered` meets its contract: after i turns the first i bytes are stored, and
-- `left` holds the bits that are not.
-- Assumes nothing.
use Rattle.bits.proofs.GatheredLaws.{held, Laying}
use Rattle.gathered_laying.proofs.put_gathered.Given as goal

abbrev pub invariant-loop-i : goal.invariant-loop-i
invariant-loop-i l = Laying l.initial.out (held l.initial.out l.at l.count l.value) l.out l.left l.i
