-- The state of a word, and its place, as slots.
-- Assumes nothing.
use Rattle.std.specs.Prelude.{ℕ, zero, suc, Bool, true, false, List, [], ◌∷◌, ◌++◌, get_or}
use Rattle.bits.specs.Bits.{val}
use Rattle.median_slots.specs.MedianSlots.{median_slots}
use Rattle.word_state.specs.State.{BitsRead, State}

-- a flag is set when its slot is not 0
abbrev pub is_set : ℕ → Bool
is_set zero = false
is_set (suc n) = true

-- the 15 slots: place, next_channel, last_zero, last_one, zero_run_pending, run_break,
-- ever_took_zero_run, left medians, right medians, bits of left, bits of right (Q8.1)
abbrev pub slots_place : List ℕ → ℕ
slots_place slots = get_or slots 0 0

abbrev pub slots_state : List ℕ → State
slots_state slots = record {
  left = record { m0 = get_or slots 7 0; m1 = get_or slots 8 0; m2 = get_or slots 9 0 };
  right = record { m0 = get_or slots 10 0; m1 = get_or slots 11 0; m2 = get_or slots 12 0 };
  last_zero = is_set (get_or slots 2 0);
  last_one = is_set (get_or slots 3 0);
  debt = get_or slots 4 0;
  run_break = is_set (get_or slots 5 0);
  ever_run = is_set (get_or slots 6 0);
  channel = get_or slots 1 0;
  bits_read = record { left = get_or slots 13 0; right = get_or slots 14 0 };
}

-- the 2 slots of both totals
abbrev pub bits_slots : BitsRead → List ℕ
bits_slots b = b.left ∷ b.right ∷ []

-- the same 15 slots of a place and a state, a flag as 0 or 1
abbrev pub state_slots : ℕ → State → List ℕ
state_slots place s =
    place ∷ s.channel ∷ val s.last_zero ∷ val s.last_one ∷ s.debt ∷ val s.run_break ∷ val s.ever_run
    ∷ (median_slots s.left ++ median_slots s.right ++ bits_slots s.bits_read)
