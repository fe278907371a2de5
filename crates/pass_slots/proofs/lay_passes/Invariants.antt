use Rattle.pass_slots.proofs.PassSlotLaws.{Laying}
use Rattle.pass_slots.proofs.lay_passes.Given as goal

-- the first passes are laid
abbrev pub invariant-loop-i : goal.invariant-loop-i
invariant-loop-i l = Laying l.i l.passes l.fn.slots l.slots
