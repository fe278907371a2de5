-- The C interface of reading and of one word: what each call answers and leaves in the lent lists,
-- on refusal too.
-- Assumes nothing.
use Rattle.std.specs.Prelude.{ℕ, cond, ◌||◌, List, ◌∷◌, ◌++◌, ltb, ℤ, length}
use Rattle.overlay.specs.Overlay.{overlay}
use Rattle.samples.specs.View.{ReadTold, read_entry}
use Rattle.one_word.specs.View.{one_word}
use Rattle.median_slots.specs.MedianSlots.{count_slots}
use Rattle.state_slots.specs.StateSlots.{slots_place, slots_state, bits_slots}
use Rattle.word_slots.specs.WordSlots.{WordLeft, leave_word}

-- ---- `wv_read`

-- the number that it answers, and what its two lists then hold
pub record ReadLeft : Type 0 where
  pub refusal : ℕ
  pub samples : List ℤ
  pub answer : List ℕ

-- the 10 slots: bits, left medians, right medians, samples written, bits of left, bits of right
abbrev pub read_slots : ReadTold → List ℕ
read_slots t = count_slots t.bits t.medians ++ (t.written ∷ bits_slots t.bits_read)

-- what reading tells, on refusal too
abbrev pub leave_reading : ReadTold → List ℕ → ReadLeft
leave_reading t answer =
    record { refusal = t.refusal; samples = t.list; answer = overlay answer 0 (read_slots t) }

-- with too few slots 6, and both lists as they were
unfoldable pub read_call : List ℕ → List ℕ → ℕ → List ℤ → List ℕ → ReadLeft
read_call entropy payload frames samples answer =
    cond (ltb (length answer) 10) (record { refusal = 6; samples = samples; answer = answer })
    (leave_reading (read_entry entropy payload frames samples) answer)

-- ---- `wv_word`

-- with too few slots 6, and the lists as they were
unfoldable pub word_call : List ℕ → List ℕ → List ℤ → List ℕ → WordLeft
word_call payload state sample report =
    cond (ltb (length state) 15 || ltb (length sample) 1 || ltb (length report) 2)
    (record { refusal = 6; state = state; sample = sample; report = report })
    (leave_word (one_word payload (slots_place state) (slots_state state)) state sample report)
