-- Document 02 §6: reassembly and the way back belong together, as statements over the definitions of
-- the two entries (Q6.4, Q6.5).
-- Assumes nothing.
use Rattle.std.specs.Prelude.{◌≡◌, true, List, ◌++◌, ℕ, ◌+◌, ◌*◌, ◌/◌, ◌≤◌, ◌<◌, ℤ, pos, length, take, get_or}
use Rattle.answers.specs.Limits.{max_elements}
use Rattle.overlay.specs.Overlay.{overlay}
use Rattle.bits.specs.Bits.{bits_of}
use Rattle.bits.specs.Laid.{bytes_holding}
use Rattle.int32_sample.specs.Setting.{Setting, width, Source, Keeps}
use Rattle.int32.specs.declared.Int32Info.{Int32Info}
use Rattle.int32.specs.Info.{Samples32, fields_taken, setting_of}
use Rattle.int32.specs.Reassemble.{appended, reassemble_entry}
use Rattle.int32.specs.Deconstruct.{DeconstructTold, deconstruct_entry}

-- the literal bytes that the way back wrote
abbrev pub written : DeconstructTold → List ℕ
written told = take ((told.bits + 7) / 8) told.literal

-- "Taking out and putting back returns the samples"; the bits read are the bits written, whatever
-- bytes follow them (Q6.5)
abbrev pub TakenOutPutBack : Type 0
TakenOutPutBack =
    (info : Int32Info) (samples : List ℤ) (storage more : List ℕ) → Samples32 samples
    → (deconstruct_entry info samples storage).refusal ≡ 0
    → let told = deconstruct_entry info samples storage in
    reassemble_entry info told.samples (written told ++ more)
    ≡ record { refusal = 0; bits = told.bits; samples = samples }

-- so no two different recordings leave the same samples and literal bytes
abbrev pub NoTwoRecordingsAlike : Type 0
NoTwoRecordingsAlike =
    (info : Int32Info) (one other : List ℤ) (storage storage' : List ℕ) → Samples32 one → Samples32 other
    → (deconstruct_entry info one storage).refusal ≡ 0 → (deconstruct_entry info other storage').refusal ≡ 0
    → (deconstruct_entry info one storage).samples ≡ (deconstruct_entry info other storage').samples
    → written (deconstruct_entry info one storage) ≡ written (deconstruct_entry info other storage')
    → one ≡ other

-- "fields, number of samples and storage in order"
pub record InOrder (info : Int32Info) (samples : List ℤ) (storage : List ℕ) : Type 0 where
  pub fields : fields_taken info ≡ true
  pub few : length samples ≤ max_elements
  pub enough : 4 * length samples ≤ length storage

-- "some sample is not the image of any sample under the redundancy setting" (Q6.4)
pub record NoSource (s : Setting) (samples : List ℤ) : Type 0 where
  pub place : ℕ
  pub inside : place < length samples
  pub none : Source s (get_or samples place (pos 0)) → ⊥

-- each sample is the image of one
abbrev pub EachHasSource : Setting → List ℤ → Type 0
EachHasSource s samples = (i : ℕ) → i < length samples → Source s (get_or samples i (pos 0))

-- "it is refused exactly when": 16 there and nowhere else, and 0, which is accepted, where all is in
-- order and each sample is the image of one, and nowhere else (Q6.4)
abbrev pub RefusedExactly : Type 0
RefusedExactly =
    (info : Int32Info) (samples : List ℤ) (storage : List ℕ) → Samples32 samples
    → let refusal = (deconstruct_entry info samples storage).refusal in
    (refusal ≡ 16 → InOrder info samples storage × NoSource (setting_of info) samples)
    × (InOrder info samples storage → NoSource (setting_of info) samples → refusal ≡ 16)
    × (refusal ≡ 0 → InOrder info samples storage × EachHasSource (setting_of info) samples)
    × (InOrder info samples storage → EachHasSource (setting_of info) samples → refusal ≡ 0)

-- no sample loses a bit: not where the literal bits are put in below it, and not where the redundant
-- ones are
pub record AllKeep (info : Int32Info) (literal : List ℕ) (samples : List ℤ) : Type 0 where
  pub literal-kept : (i : ℕ) → i < length samples → Keeps info.sent_bits (get_or samples i (pos 0))
  pub redundant_kept : (i : ℕ) → i < length samples
      → Keeps (width (setting_of info)) (get_or (appended info.sent_bits (bits_of literal) samples) i
      (pos 0))

-- and then what was put in is taken out again: the samples, and the literal bits that were read
-- (Q6.5)
abbrev pub PutInTakenOut : Type 0
PutInTakenOut =
    (info : Int32Info) (samples : List ℤ) (literal storage : List ℕ) → AllKeep info literal samples
    → (reassemble_entry info samples literal).refusal ≡ 0 → 4 * length samples ≤ length storage
    → let told = reassemble_entry info samples literal in
    deconstruct_entry info told.samples storage
    ≡ record {
      refusal = 0;
      bits = told.bits;
      samples = samples;
      literal = overlay storage 0 (bytes_holding (take told.bits (bits_of literal)));
    }
