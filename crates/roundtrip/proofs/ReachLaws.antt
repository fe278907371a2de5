-- Document 02, §7: reading and packing refuse with 17 exactly when a log word is out of reach.
-- Assumes nothing.
use mathlib.Core.Path.{refl}
use Rattle.entropy.proofs.ReachLaws.{seventeen-first}
use Rattle.roundtrip.specs.Reach.{ReadingSeventeen, PackingSeventeen}
use Rattle.roundtrip.proofs.PayloadLaws.{reading_exactly, packing_exactly}

-- (Q7.3)
pub reading-seventeen : ReadingSeventeen
reading-seventeen entropy payload frames list =
    reading_exactly 17 refl entropy payload frames list
    (seventeen-first entropy).0 (seventeen-first entropy).1

-- (Q7.3)
pub packing_seventeen : PackingSeventeen
packing_seventeen residuals entropy frames buffer =
    packing_exactly 17 refl residuals entropy frames buffer
    (seventeen-first entropy).0 (seventeen-first entropy).1
