-- A turn of the reading loop: the word there, and where the loop stands after it (R4).
-- Assumes nothing.
-- ---- for the code alone
use Rattle.std.specs.Prelude.{◌≡◌, Bool, true, false, Result, List, [], ◌∷◌, ℕ, ◌+◌, ◌-◌, ◌%◌, ◌≤◌, ℤ, get_or, set}
use Rattle.answers.specs.declared.Refusal.{Refusal}
use Rattle.bits.specs.Bits.{bits_of}
use Rattle.entropy.specs.declared.AdaptiveMedians.{AdaptiveMedians}
use Rattle.entropy.specs.Medians.{medians_of, zero_set, zero_sets}
use Rattle.medians.specs.Adaptation.{adapt}
use Rattle.word_state.specs.State.{State, side}
use Rattle.words.specs.Word.{word}
use Rattle.words.specs.Parts.{coded_word}
use Rattle.words.specs.declared.coded.Coded.{Coded}
use Rattle.readings.specs.Standing.{Held}
use Rattle.short_steps.specs.Onward.{standing, Onward}
use Rattle.short_steps.specs.declared.standing.Standing.{Standing}
use Rattle.reading_turns.specs.Zeros.{ZerosIs}
use Rattle.reading_turns.specs.declared.turn.Turn.{Turn}

-- the word at the place p, where i samples are written, in every state that the loop holds there
pub record WordAt (payload : List ℕ) (p i : ℕ) (sets : List AdaptiveMedians) (run_break zero one : Bool)
    (r : Result Coded Refusal) : Type 0 where
  pub is : (s : State) → Held s sets 0 run_break zero one i → coded_word s r ≡ word (bits_of payload) p s

-- left's bits after a word that ends at q (Q8.2)
abbrev pub left_after : Turn → ℕ → ℕ
left_after t q = t.left_bits + side (t.written % 2) (q - t.bits) 0

-- the zeros of a run are written, as many as are owed after the first; all medians are zeros, and
-- run_break is set
pub record AfterRun (before after : List ℤ) (t : Turn) (owed next : ℕ) (r : Turn) : Type 0 where
  pub zeros : ZerosIs before after t.written owed r.written
  pub part : left_after t next ≤ next
  pub turn_is : r ≡ record {
    bits = next;
    left_bits = left_after t next;
    written = r.written;
    medians = zero_sets;
    run_break = true;
    last_zero = t.last_zero;
    last_one = t.last_one;
    part = part;
  }

-- a sample of count k is written, the medians due are adapted to k, and short words took the reading
-- on from there
pub record AfterSample (payload : List ℕ) (before after : List ℤ) (t : Turn) (v : ℤ) (k next : ℕ)
    (zero one : Bool) (r : Turn) : Type 0 where
  pub due : AdaptiveMedians
  pub adapted : medians_of due ≡ adapt (medians_of (get_or t.medians (t.written % 2) zero_set)) k
  pub part : left_after t next ≤ next
  pub to : Standing
  pub onward : Onward payload (set before t.written v) after
      (standing next (left_after t next) (t.written + 1) (set t.medians (t.written % 2) due) zero one part) to
  pub turn_is : r ≡ record {
    bits = to.place;
    left_bits = to.left_bits;
    written = to.written;
    medians = to.left ∷ to.right ∷ [];
    run_break = false;
    last_zero = to.last_zero;
    last_one = to.last_one;
    part = to.part;
  }
