-- What the struct of the one-word entry stands for, and what the entry answers (X3).
-- Assumes nothing.
use Rattle.std.specs.Prelude.{cond, ◌||◌, List, ℕ, ◌-◌, ◌≤◌, ltb, ℤ, pos, length}
use Rattle.std.specs.Prelude.{Result, Ok, Err}
use Rattle.answers.specs.Limits.{max_payload_bytes}
use Rattle.answers.specs.Numbers.{outcome_number}
use Rattle.answers.specs.declared.Refusal.{Refusal}
use Rattle.bits.specs.Bits.{bits_of}
use Rattle.word_state.specs.State.{State, charged, exceeds}
use Rattle.word_state.specs.View.{state_of}
use Rattle.words.specs.Word.{Word, given, refused, word}
use Rattle.words.specs.declared.coded.Coded.{Coded}
use Rattle.zones.specs.Report.{Report, none, report_of}
use Rattle.one_word.specs.declared.WordAnswer.{WordAnswer}

-- what the entry answers: the refusal's number (0: accepted), sample, place, state and report
pub record WordTold : Type 0 where
  pub refusal : ℕ
  pub sample : ℤ
  pub place : ℕ
  pub state : State
  pub report : Report

-- the answer that the entry's struct holds
abbrev pub view_word : WordAnswer → WordTold
view_word r = record {
  refusal = outcome_number r.outcome;
  sample = r.sample;
  place = r.place;
  state = state_of r.state;
  report = report_of r.report.zone;
}

-- document 01 (X3): "A refusal gives sample 0 and the old state and place"
abbrev pub tell_word : ℕ → State → Word → WordTold
tell_word p s (given v q t z) = record { refusal = 0; sample = v; place = q; state = t; report = z }
tell_word p s (refused c) = record { refusal = c; sample = pos 0; place = p; state = s; report = none }

-- document 02, §8 (Q8.2, Q8.5): what an accepted word took, from its place to the next, counts for the
-- channel that was due; "A refused word adds to neither"
abbrev pub charge : ℕ → State → Word → Word
charge p s (given v q t z) = given v q (charged s.channel (q - p) t) z
charge p s (refused c) = refused c

-- document 01 (X3): "One word: 5, the payload bytes only; 12, next_channel above 1; 3; 4"; document 02,
-- §8 (Q8.3): 12 also for a state "whose totals together exceed the reader's place"
unfoldable pub one_word : List ℕ → ℕ → State → WordTold
one_word payload p s =
    tell_word p s
    (cond (ltb max_payload_bytes (length payload)) (refused 5)
    (cond (ltb 1 s.channel || exceeds s.bits_read p) (refused 12) (charge p s (word (bits_of payload) p s))))

-- ---- for the code alone

-- the bits that a word took, as it was read at p
abbrev pub bits_taken : ℕ → Coded → ℕ
bits_taken p (Coded.Run d q) = q - p
bits_taken p (Coded.Sample v k q z o) = q - p

-- the same of a word that may be refused, which takes none
abbrev pub word_taken : ℕ → Result Coded Refusal → ℕ
word_taken p (Ok r) = bits_taken p r
word_taken p (Err refusal) = 0

-- a word that was read at p ends there or after it
abbrev pub EndsAfter : ℕ → Coded → Type 0
EndsAfter p (Coded.Run d q) = p ≤ q
EndsAfter p (Coded.Sample v k q z o) = p ≤ q
