use Rattle.std.proofs.Common.{arith, ◌*◌, add-one, length-set}
use Rattle.made_slots.specs.MadeSlots.{pass_slots}
use Rattle.pass_slots.proofs.PassSlotLaws.{part-is, taken_more}
use Rattle.pass_slots.proofs.passes_in.Goals as goal

-- one pass more
pub loop-i-preserved : goal.loop-i-preserved
loop-i-preserved c =
    let s = c.args.slots.now in
    let t = c.loop-i in
    record {
      long = simp length-set t.invariant.long;
      held = rw (add-one t.i) (taken_more t.i t.passes c.pass_in.result s (omega arith) t.invariant.held
          (rw (part-is (t.i * pass_slots) s) at c.pass_in.ensures));
    }
