-- Document 02, §7, "Log words past the format's reach", over the definitions of the entries of
-- reading and packing.
-- Assumes nothing.
use Rattle.std.specs.Prelude.{◌≡◌, List, ℕ, ℤ}
use Rattle.entropy.specs.Reach.{WhySeventeen}
use Rattle.samples.specs.View.{read_entry}
use Rattle.packing.specs.Entry.{pack_entry}
use Rattle.roundtrip.specs.Lengths.{ReadLengths, PackLengths}

-- (Q7.3) "17 .. after 1 and before 2": reading refuses with 17 exactly when its lengths are in order
-- and the entropy payload, of 6 or 12 bytes, holds a log word out of reach
abbrev pub ReadingSeventeen : Type 0
ReadingSeventeen =
    (entropy payload : List ℕ) (frames : ℕ) (list : List ℤ)
    → let refusal = (read_entry entropy payload frames list).refusal in
    (ReadLengths payload frames list → WhySeventeen entropy → refusal ≡ 17)
    × (refusal ≡ 17 → ReadLengths payload frames list × WhySeventeen entropy)

-- (Q7.3) and so does packing
abbrev pub PackingSeventeen : Type 0
PackingSeventeen =
    (residuals : List ℤ) (entropy : List ℕ) (frames : ℕ) (buffer : List ℕ)
    → let refusal = (pack_entry residuals entropy frames buffer).refusal in
    (PackLengths residuals frames → WhySeventeen entropy → refusal ≡ 17)
    × (refusal ≡ 17 → PackLengths residuals frames × WhySeventeen entropy)
