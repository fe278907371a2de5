-- Document 02, §2: when reading and packing refuse with 2, and that a recording comes back where the
-- right set is zero. The second is demand 3: such a payload is one that reading accepts.
-- Assumes nothing.
use mathlib.Core.Path.{refl}
use Rattle.entropy.proofs.SilentLaws.{two_exactly, silent-right}
use Rattle.roundtrip.specs.Silent.{ReadingTwo, PackingTwo, SilentRightReturns}
use Rattle.roundtrip.proofs.PayloadLaws.{reading_exactly, packing_exactly}
use Rattle.roundtrip.proofs.DemandLaws.{demand_3}

-- (Q2.2)
pub reading-two : ReadingTwo
reading-two entropy payload frames list =
    reading_exactly 2 refl entropy payload frames list (two_exactly entropy).0 (two_exactly entropy).1

-- (Q2.2)
pub packing_two : PackingTwo
packing_two residuals entropy frames buffer =
    packing_exactly 2 refl residuals entropy frames buffer (two_exactly entropy).0 (two_exactly entropy).1

-- (Q2.3)
pub silent-right-returns : SilentRightReturns
silent-right-returns frames passes recording few w x span entropy twelve reached left right buffer behind l =
    (demand_3 frames passes recording few w x).returns entropy buffer behind l span
    (silent-right entropy twelve reached left right).0
