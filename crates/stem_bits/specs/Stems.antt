-- Document 02, §8: what is shown of the two totals, after any history of words and of a whole reading.
-- Assumes nothing.
use Rattle.std.specs.Prelude.{◌≡◌, List, ℕ, ◌+◌, ◌*◌, ◌≤◌, ℤ, length}
use Rattle.answers.specs.Limits.{max_payload_bytes}
use Rattle.entropy.specs.Medians.{Medians}
use Rattle.entropy.specs.Seed.{seed_medians}
use Rattle.word_state.specs.State.{SmallBits, State, start}
use Rattle.readings.specs.Costs.{Cost, by_stem}
use Rattle.samples.specs.View.{read_refusal, read_entry}
use Rattle.one_word.specs.View.{one_word}
use Rattle.stem_bits.specs.History.{History, Stand, after_words}

-- (Q8.3) whatever the place, totals of 32 bits stay such, accepted or refused
abbrev pub TotalsStaySmall : Type 0
TotalsStaySmall =
    (payload : List ℕ) (p : ℕ) (s : State) → SmallBits s.bits_read
    → SmallBits (one_word payload p s).state.bits_read

-- (Q8.4) "the two add up to the reader's place, each being the sum over the history of what its own words
-- took"; and none is above the bits of the longest payload
pub record AfterHistory (words : List Cost) (p : ℕ) (s : State) : Type 0 where
  pub add-up : s.bits_read.left + s.bits_read.right ≡ p
  pub each_its_own : s.bits_read ≡ by_stem words
  pub few : p ≤ 8 * max_payload_bytes

abbrev pub BitsByStem : Type 0
BitsByStem =
    (left right : Medians) (words : List Cost) (p : ℕ) (s : State) → History left right words p s
    → AfterHistory words p s

-- (Q8.5) "A refused word adds to neither": it hands back the state that it got, and the place
abbrev pub RefusedKeeps : Type 0
RefusedKeeps =
    (payload : List ℕ) (p : ℕ) (s : State) → let w = one_word payload p s in
    (w.refusal ≡ 0 → ⊥) → (w.state ≡ s) × (w.place ≡ p)

-- (Q8.7) of a reading that came to its words, also of one that a word ended: the one-word entry accepts as
-- many words of the same payload, and has then the totals that the reading tells, at the bits used
pub record SameTotals (entropy payload : List ℕ) (frames : ℕ) (list : List ℤ) : Type 0 where
  pub words : List Cost
  pub as_many : length words ≡ (read_entry entropy payload frames list).written
  pub after : Stand
  pub after_is :
      let m = seed_medians entropy in after ≡ after_words payload (length words) 0 (start m.left m.right)
  pub accepted :
      let m = seed_medians entropy in History m.left m.right words after.place after.state
  pub bits-used : after.place ≡ (read_entry entropy payload frames list).bits
  pub totals : after.state.bits_read ≡ (read_entry entropy payload frames list).bits_read

abbrev pub ReadingTotals : Type 0
ReadingTotals =
    (entropy payload : List ℕ) (frames : ℕ) (list : List ℤ) → read_refusal entropy payload frames list ≡ 0
    → SameTotals entropy payload frames list

-- (Q8.7) together they are the bits used, of every reading
abbrev pub ReadingAddsUp : Type 0
ReadingAddsUp =
    (entropy payload : List ℕ) (frames : ℕ) (list : List ℤ) → let r = read_entry entropy payload frames list in
    r.bits_read.left + r.bits_read.right ≡ r.bits
