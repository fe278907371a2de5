use Rattle.std.proofs.Common.{rules}
use Rattle.pass_slots.specs.PassSlots.{pass_of}
use Rattle.pass_slots.proofs.pass_in.Goals as goal

pub returns : goal.returns
unfolding pass_of
returns c = search rules
