-- Document 02, §10: cutting on eights, for callers of the C interface. They hold a pass in 20 slots, and
-- hand the slots that one call left to the next. What `wv_decorrelate` and `wv_analyse` answer and leave
-- is `passes_call` (crates/pass_slots/specs/PassSlots.antt). Assumes nothing.
use Rattle.std.specs.Prelude.{◌≡◌, List, [], ◌∷◌, ◌++◌, ℕ, suc, ◌≤◌, ◌<◌, ℤ, length, replicate}
use Rattle.answers.specs.Limits.{max_elements}
use Rattle.passes.specs.Run.{Chain, decorrelated, analysed}
use Rattle.passes.specs.declared.DecorrPass.{DecorrPass}
use Rattle.decorrelation.specs.Lists.{decorrelation, analysis}
use Rattle.cut_buffers.specs.Cut.{Entry, MayCut, EachMayCut, first_part, second_part, cut_into, EachShort}
use Rattle.pass_slots.specs.PassSlots.{passes_in, list_slots, PassesLeft, passes_call}

-- ---- two parts

-- what the calls of both parts left
pub record SlotCalls : Type 0 where
  pub first : PassesLeft
  pub second : PassesLeft

-- the second call has the slots that the first one left
abbrev pub calls_in_two : Entry → List ℤ → ℕ → List ℤ → SlotCalls
calls_in_two entry slots frames buffer =
    let one = passes_call entry slots (first_part frames buffer) in
    let two = passes_call entry one.passes (second_part frames buffer) in
    record { first = one; second = two }

-- both calls are accepted, and leave the buffer and the slots that the whole call leaves
pub record SameSlots (apart : SlotCalls) (whole : PassesLeft) : Type 0 where
  pub first-accepted : apart.first.refusal ≡ 0
  pub second-accepted : apart.second.refusal ≡ 0
  pub same_samples : apart.first.buffer ++ apart.second.buffer ≡ whole.buffer
  pub same_slots : apart.second.passes ≡ whole.passes

-- wherever the whole call is accepted, and the cut falls after a multiple of eight frames or no pass
-- is a lag
abbrev pub SlotsCutInTwo : Entry → Type 0
SlotsCutInTwo entry =
    (slots buffer : List ℤ) (frames : ℕ) → (passes_call entry slots buffer).refusal ≡ 0 → MayCut (passes_in slots) frames
    → SameSlots (calls_in_two entry slots frames buffer) (passes_call entry slots buffer)

-- `wv_decorrelate` (Q10.1, Q10.2)
abbrev pub DecorrelateCut : Type 0
DecorrelateCut = SlotsCutInTwo decorrelation

-- `wv_analyse` (Q10.4)
abbrev pub AnalyseCut : Type 0
AnalyseCut = SlotsCutInTwo analysis

-- a call that is refused over a buffer of at most 262,144 elements, for its slots or its passes
pub record RefusedSlots (apart : SlotCalls) (slots first second : List ℤ) (number : ℕ) : Type 0 where
  pub first-refused : apart.first ≡ record { refusal = number; passes = slots; buffer = first }
  pub second-refused : apart.second ≡ record { refusal = number; passes = slots; buffer = second }

-- .. is refused over both parts with the same number, and both leave everything (Q10.1)
abbrev pub SlotsRefusedInTwo : Entry → Type 0
SlotsRefusedInTwo entry =
    (slots buffer : List ℤ) (frames : ℕ) → length buffer ≤ max_elements
    → let number = (passes_call entry slots buffer).refusal in 0 < number
    → RefusedSlots (calls_in_two entry slots frames buffer) slots (first_part frames buffer) (second_part frames buffer) number

abbrev pub DecorrelateRefused : Type 0
DecorrelateRefused = SlotsRefusedInTwo decorrelation

-- (Q10.4)
abbrev pub AnalyseRefused : Type 0
AnalyseRefused = SlotsRefusedInTwo analysis

-- ---- any number of parts

-- what the calls of all parts leave: their refusals, the slots after the last one, and the parts
-- joined again
pub record PartsLeft : Type 0 where
  pub refusals : List ℕ
  pub passes : List ℤ
  pub buffer : List ℤ

-- call by call, each with the slots that the one before left (Q10.5)
abbrev pub calls_in_parts : Entry → List ℤ → List (List ℤ) → PartsLeft
calls_in_parts entry slots [] = record { refusals = []; passes = slots; buffer = [] }
calls_in_parts entry slots (part ∷ parts) =
    let one = passes_call entry slots part in
    let rest = calls_in_parts entry one.passes parts in
    record { refusals = one.refusal ∷ rest.refusals; passes = rest.passes; buffer = one.buffer ++ rest.buffer }

-- wherever the whole call is accepted, and each cut may be made
abbrev pub SlotsCutInMany : Entry → Type 0
SlotsCutInMany entry =
    (slots buffer : List ℤ) (cuts : List ℕ) → let whole = passes_call entry slots buffer in whole.refusal ≡ 0
    → EachMayCut (passes_in slots) cuts
    → calls_in_parts entry slots (cut_into cuts buffer)
    ≡ record { refusals = replicate (suc (length cuts)) 0; passes = whole.passes; buffer = whole.buffer }

-- `wv_decorrelate` (Q10.5)
abbrev pub DecorrelateInParts : Type 0
DecorrelateInParts = SlotsCutInMany decorrelation

-- `wv_analyse` (Q10.4, Q10.5)
abbrev pub AnalyseInParts : Type 0
AnalyseInParts = SlotsCutInMany analysis

-- a buffer of any length, in parts that a call takes, by slots that it accepts over an empty one: what
-- the passes leave of the whole (P10, P12)
abbrev pub LongSlots : Entry → (List DecorrPass → List ℤ → Chain) → Type 0
LongSlots entry run =
    (slots buffer : List ℤ) (cuts : List ℕ) → (passes_call entry slots []).refusal ≡ 0 → EachMayCut (passes_in slots) cuts
    → EachShort (cut_into cuts buffer)
    → let all = run (passes_in slots) buffer in
    calls_in_parts entry slots (cut_into cuts buffer)
    ≡ record { refusals = replicate (suc (length cuts)) 0; passes = list_slots all.passes; buffer = all.buffer }

-- `wv_decorrelate` (Q10.5)
abbrev pub LongDecorrelate : Type 0
LongDecorrelate = LongSlots decorrelation decorrelated

-- `wv_analyse` (Q10.4, Q10.5)
abbrev pub LongAnalyse : Type 0
LongAnalyse = LongSlots analysis analysed
