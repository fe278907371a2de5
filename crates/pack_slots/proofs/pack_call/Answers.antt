-- `pack_slots::pack_call` meets its contract: too few slots, or what packing told, whose bits fit
-- 32 bits.
-- Assumes nothing.
use native.Mathlib.Omega.{arith}
use Rattle.pack_slots.proofs.PackSlotLaws.{pack-fits, pack-laid, pack-refused}
use Rattle.pack_slots.proofs.pack_call.Goals as goal

pub lay_counts-requires-clause-bits : goal.lay_counts-requires-clause-bits
lay_counts-requires-clause-bits c = omega (arith, pack-fits _ _ _ _ c.in-Ok.packed _ c.in-Ok.ensures)

pub returns-in-Ok : goal.returns-in-Ok
returns-in-Ok c =
    pack-laid _ _ _ _ _ c.in-Ok.packed _ _ c.in-Ok.ensures c.if-answer-lt7.false c.lay_counts.ensures

pub returns-in-Err : goal.returns-in-Err
returns-in-Err c =
    pack-refused _ _ _ _ _ _ _ _ c.in-Err.ensures c.if-answer-lt7.false c.lay_counts-in-Err.ensures
