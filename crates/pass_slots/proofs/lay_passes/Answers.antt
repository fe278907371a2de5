use Rattle.std.proofs.Common.{rules, arith, ◌≡◌, ◌<◌, length, add-one}
use Rattle.made_slots.specs.MadeSlots.{pass_slots}
use Rattle.pass_slots.proofs.PassSlotLaws.{laying_none, laying_more, laying_all}
use Rattle.pass_slots.proofs.lay_passes.Goals as goal

pub loop-i-init : goal.loop-i-init
loop-i-init c = laying_none c.args.passes c.args.slots.now

-- one pass more is laid behind those before it
pub loop-i-preserved : goal.loop-i-preserved
loop-i-preserved c =
    let a = c.args in
    let t = c.loop-i in
    let x = c.pass_slots in
    let n : length x.result ≡ pass_slots = search rules in
    let few : t.i < length a.passes = search (rules, arith) in
    rw (add-one t.i) (laying_more t.i a.passes _ a.slots.now t.slots x.result _ few n x.ensures
    c.lay.ensures t.invariant)

pub returns : goal.returns
returns c =
    let a = c.args in
    let t = c.loop-i in
    laying_all a.count t.i a.passes a.slots.now t.slots (omega arith) (omega arith) c.requires.1
    t.invariant
