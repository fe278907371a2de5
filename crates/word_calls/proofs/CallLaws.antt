-- What the calls of reading and of one word leave, each way out by a law.
-- Assumes nothing.
use mathlib.Core.Path.{◌≡◌}
use mathlib.Core.Bool.{true, ◌||◌}
use mathlib.Core.List.{List, ◌∷◌}
use Prim.Native.Nat.{ℕ, ◌≤◌, ◌<◌}
use native.Mathlib.Omega.{arith}
use lib.Dec.{ltb}
use lib.IntN.{ℤ}
use lib.ListN.{length, get_or}
use borrow.Author.Tests.{lt-ltb, le-ltb}
use Rattle.answers.specs.Numbers.{outcome_number}
use Rattle.overlay.specs.Overlay.{overlay}
use Rattle.overlay.proofs.OverlayLaws.{overlay_two}
use Rattle.entropy.specs.Medians.{pair_of}
use Rattle.word_state.specs.State.{State}
use Rattle.word_state.specs.View.{bits_read_of}
use Rattle.samples.specs.View.{view_reading, read_entry}
use Rattle.one_word.specs.View.{view_word, one_word}
use Rattle.samples.specs.declared.ReadAnswer.{ReadAnswer}
use Rattle.samples.proofs.ToldBounds.{read_fits}
use Rattle.one_word.specs.declared.WordAnswer.{WordAnswer}
use Rattle.median_slots.specs.MedianSlots.{count_slots}
use Rattle.state_slots.specs.StateSlots.{slots_place, slots_state, bits_slots}
use Rattle.word_slots.specs.WordSlots.{leave_word}
use Rattle.word_calls.specs.Calls.{read_call, word_call}

-- ---- reading

-- the numbers of an answer that have 32 bits
pub record CountsFit (x : ReadAnswer) : Type 0 where
  pub bits : x.bits ≤ 4294967295
  pub written : x.written ≤ 4294967295
  pub left : get_or x.bits_read 0 0 ≤ 4294967295
  pub right : get_or x.bits_read 1 0 ≤ 4294967295

module _ (entropy payload : List ℕ) (frames : ℕ) (samples : List ℤ) (answer : List ℕ) where
  -- too few slots
  pub read_few : length answer < 10
      → read_call entropy payload frames samples answer ≡ record { refusal = 6; samples = samples; answer = answer }
  unfolding read_call
  read_few h = rw (lt-ltb (length answer) 10 h)

  -- what reading told: bits and medians, and behind them the count and both totals
  pub read-laid : (x : ReadAnswer) (list : List ℤ) (first after : List ℕ)
      → view_reading x list ≡ read_entry entropy payload frames samples → 10 ≤ length answer
      → first ≡ overlay answer 0 (count_slots x.bits (pair_of x.medians))
      → after ≡ overlay first 7 (x.written ∷ bits_slots (bits_read_of x.bits_read))
      → record { refusal = outcome_number x.outcome; samples = list; answer = after } ≡ read_call entropy payload frames samples answer
  unfolding read_call
  read-laid x list first after t h f g =
      let both = overlay_two answer first after 0 7 (count_slots x.bits (pair_of x.medians)) (x.written ∷ bits_slots (bits_read_of x.bits_read)) (omega arith) (omega arith) f g in
      rw (le-ltb (length answer) 10 h, ← t, both)

  -- each number that it told fits its slot
  pub read_counts : (x : ReadAnswer) (list : List ℤ)
      → view_reading x list ≡ read_entry entropy payload frames samples → CountsFit x
  read_counts x list t =
      let s = read_fits entropy payload frames samples list x t in
      record {
        bits = omega (arith, s.bits_small);
        written = omega (arith, s.written_small);
        left = omega (arith, s.bits_small, s.stems);
        right = omega (arith, s.bits_small, s.stems);
      }

-- ---- one word

module _ (payload state : List ℕ) (sample : List ℤ) (report : List ℕ) where
  -- too few slots
  pub word-short : (ltb (length state) 15 || ltb (length sample) 1 || ltb (length report) 2) ≡ true
      → record { refusal = 6; state = state; sample = sample; report = report } ≡ word_call payload state sample report
  unfolding word_call
  word-short h = rw h

  -- what the word told
  pub word-told : (x : WordAnswer) (s : State)
      → (15 ≤ length state) × (1 ≤ length sample) × (2 ≤ length report)
      → s ≡ slots_state state → view_word x ≡ one_word payload (slots_place state) s
      → leave_word (view_word x) state sample report ≡ word_call payload state sample report
  unfolding word_call
  word-told x s enough holds told =
      rw (le-ltb (length state) 15 enough.0, le-ltb (length sample) 1 enough.1, le-ltb (length report) 2 enough.2, ← holds, ← told)
