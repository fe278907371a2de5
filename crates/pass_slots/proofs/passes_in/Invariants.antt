use Rattle.std.proofs.Common.{◌≡◌, length, take}
use Rattle.answers.specs.Limits.{max_passes}
use Rattle.pass_slots.specs.PassSlots.{passes_of}
use Rattle.pass_slots.proofs.passes_in.Given as goal

-- the first passes are those of the slots
abbrev pub invariant-loop-i : goal.invariant-loop-i
invariant-loop-i l = record {
  long : length l.passes ≡ max_passes;
  held : take l.i l.passes ≡ passes_of l.i l.slots;
}
