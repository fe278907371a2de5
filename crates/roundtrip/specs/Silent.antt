-- Document 02, §2, "A right stem that starts silent", over the definitions of the entries of
-- reading and packing.
-- Assumes nothing.
use Rattle.std.specs.Prelude.{◌≡◌, true, false, List, ◌++◌, ℕ, ◌*◌, ◌≤◌, ℤ, length, drop}
use Rattle.answers.specs.Limits.{max_frames, max_payload_bytes, bytes_per_frame}
use Rattle.entropy.specs.Entropy.{word_set, zero_words, past_reach}
use Rattle.entropy.specs.Seed.{any_negative}
use Rattle.entropy.specs.Silent.{WhyTwo}
use Rattle.samples.specs.View.{read_entry}
use Rattle.passes.specs.declared.DecorrPass.{DecorrPass}
use Rattle.decorrelation.specs.Lists.{decorrelation, analysis}
use Rattle.word_bits.specs.Residuals.{spanned}
use Rattle.packing.specs.Entry.{pack_entry, packed_bytes}
use Rattle.roundtrip.specs.Demand.{Recording, WellMade, Returned}
use Rattle.roundtrip.specs.Lengths.{ReadLengths, PackLengths}

-- (Q2.2) "Number 2 stays for 6 bytes and for negative medians": reading refuses with 2 exactly when
-- its lengths are in order and the entropy payload, in reach, is one of these
abbrev pub ReadingTwo : Type 0
ReadingTwo =
    (entropy payload : List ℕ) (frames : ℕ) (list : List ℤ)
    → let refusal = (read_entry entropy payload frames list).refusal in
    (ReadLengths payload frames list → WhyTwo entropy → refusal ≡ 2)
    × (refusal ≡ 2 → ReadLengths payload frames list × WhyTwo entropy)

-- (Q2.2) and so does packing
abbrev pub PackingTwo : Type 0
PackingTwo =
    (residuals : List ℤ) (entropy : List ℕ) (frames : ℕ) (buffer : List ℕ)
    → let refusal = (pack_entry residuals entropy frames buffer).refusal in
    (PackLengths residuals frames → WhyTwo entropy → refusal ≡ 2)
    × (refusal ≡ 2 → PackLengths residuals frames × WhyTwo entropy)

-- (Q2.3) "Whatever is said of a recording's return covers them too": packed under 12 bytes in reach,
-- whose right set is zero and whose left set has no negative median, a recording whose residuals lie
-- in the span is returned
abbrev pub SilentRightReturns : Type 0
SilentRightReturns =
    (frames : ℕ) (passes : List DecorrPass) (recording : List ℤ)
    → frames ≤ max_frames → WellMade passes → Recording frames recording
    → let residuals = (analysis passes recording).buffer in spanned residuals ≡ true
    → (entropy : List ℕ) → length entropy ≡ 12 → past_reach entropy ≡ false
    → any_negative (word_set entropy) ≡ false → word_set (drop 6 entropy) ≡ zero_words
    → (buffer behind : List ℕ) (list : List ℤ) → bytes_per_frame * frames ≤ length buffer
    → let p = pack_entry residuals entropy frames buffer in
    length (packed_bytes p ++ behind) ≤ max_payload_bytes → length list ≡ 2 * frames
    → let read = read_entry entropy (packed_bytes p ++ behind) frames list in
    Returned frames passes recording p read (decorrelation passes read.list)
