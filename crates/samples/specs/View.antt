-- What the struct of reading stands for, and what reading answers (X2).
-- Assumes nothing.
use Rattle.std.specs.Prelude.{cond, ◌||◌, List, ℕ, ◌*◌, ltb, eqb, ℤ, length}
use Rattle.answers.specs.Guard.{unless_refused}
use Rattle.answers.specs.Limits.{max_frames, max_payload_bytes}
use Rattle.answers.specs.Numbers.{outcome_number}
use Rattle.bits.specs.Bits.{bits_of}
use Rattle.entropy.specs.Medians.{MedianPair, pair_of, zero_pair}
use Rattle.entropy.specs.Seed.{seed_refusal, seed_medians}
use Rattle.overlay.specs.Overlay.{overlay}
use Rattle.word_state.specs.State.{BitsRead, no_bits, start}
use Rattle.word_state.specs.View.{bits_read_of}
use Rattle.readings.specs.Reading.{Reading, reading}
use Rattle.readings.specs.Costs.{Cost, by_stem, costs}
use Rattle.samples.specs.declared.ReadAnswer.{ReadAnswer}

-- what reading answers: the refusal's number (0: accepted), bits used, medians after, samples
-- written, and the bits of each stem (document 02, §8); and what the lent list then holds
pub record ReadTold : Type 0 where
  pub refusal : ℕ
  pub bits : ℕ
  pub medians : MedianPair
  pub written : ℕ
  pub bits_read : BitsRead
  pub list : List ℤ

-- the answer that the entry's struct holds, with the lent list as it is left
abbrev pub view_reading : ReadAnswer → List ℤ → ReadTold
view_reading r list = record {
  refusal = outcome_number r.outcome;
  bits = r.bits;
  medians = pair_of r.medians;
  written = r.written;
  bits_read = bits_read_of r.bits_read;
  list = list;
}

-- the samples of a reading stand first in the lent list; the rest of it is as it was. Document 02, §8
-- (Q8.7): the bits of a stem are what its accepted words cost
abbrev pub tell_reading : List ℤ → List Cost → Reading → ReadTold
tell_reading list words r = record {
  refusal = r.refusal;
  bits = r.place;
  medians = record { left = r.state.left; right = r.state.right };
  written = length r.samples;
  bits_read = by_stem words;
  list = overlay list 0 r.samples;
}

-- document 01 (X2): "Reading: 5, over 131,072 frames or 4,194,304 payload bytes; 6, list length; 1;
-- 2, mono or a negative median", and 17 between 1 and 2 (Q7.3); 0: words follow
unfoldable pub read_refusal : List ℕ → List ℕ → ℕ → List ℤ → ℕ
read_refusal entropy payload frames list =
    cond (ltb max_frames frames || ltb max_payload_bytes (length payload)) 5 (cond (eqb (length list) (2 * frames)) (seed_refusal entropy) 6)

-- document 01 (R6): "One that comes before any word is tried tells 0 for bits and medians"; and so for
-- the bits of both stems (Q8.7)
abbrev pub refuse_reading : List ℤ → ℕ → ReadTold
refuse_reading list refusal =
    record { refusal = refusal; bits = 0; medians = zero_pair; written = 0; bits_read = no_bits; list = list }

-- n words from these medians on
abbrev pub read_words : List ℕ → MedianPair → ℕ → List ℤ → ReadTold
read_words payload seeds n list =
    let first = start seeds.left seeds.right in
    tell_reading list (costs (bits_of payload) n 0 first) (reading (bits_of payload) n 0 first)

-- document 01, "Reading, from the entry down" (R1 to R6): 2 times frames words from the seed
-- medians on
unfoldable pub read_entry : List ℕ → List ℕ → ℕ → List ℤ → ReadTold
read_entry entropy payload frames list =
    unless_refused (read_refusal entropy payload frames list) (refuse_reading list)
    (read_words payload (seed_medians entropy) (2 * frames) list)
