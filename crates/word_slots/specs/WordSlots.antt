-- Reports as slots, and what one word leaves in the lent lists, on refusal too.
-- Assumes nothing.
use Rattle.std.specs.Prelude.{ℕ, List, [], ◌∷◌, ℤ}
use Rattle.overlay.specs.Overlay.{overlay}
use Rattle.zones.specs.Report.{Report, none, zone0, zone1, zone2, over}
use Rattle.one_word.specs.View.{WordTold}
use Rattle.slots.specs.Slots.{leave_values}
use Rattle.state_slots.specs.StateSlots.{state_slots}

-- the 2 slots of a report: 0 for none, else 1 plus the number of the zone, 0 to 3; then the count
abbrev pub report_slots : Report → List ℕ
report_slots none = 0 ∷ 0 ∷ []
report_slots zone0 = 1 ∷ 0 ∷ []
report_slots zone1 = 2 ∷ 1 ∷ []
report_slots zone2 = 3 ∷ 2 ∷ []
report_slots (over k) = 4 ∷ k ∷ []

-- the number that a word is answered with, and what the three lists then hold
pub record WordLeft : Type 0 where
  pub refusal : ℕ
  pub state : List ℕ
  pub sample : List ℤ
  pub report : List ℕ

-- what the word tells: sample and report on refusal too, the state where it was accepted
abbrev pub leave_word : WordTold → List ℕ → List ℤ → List ℕ → WordLeft
leave_word t state sample report = record {
  refusal = t.refusal;
  state = leave_values t.refusal (state_slots t.place t.state) state;
  sample = overlay sample 0 (t.sample ∷ []);
  report = overlay report 0 (report_slots t.report);
}
