-- Document 02, §4: pass lists joined, for callers of the C interface. They hold a pass in 20 slots;
-- a joined list is the second list's slots behind the first's. What `wv_decorrelate` and `wv_analyse`
-- answer and leave is `passes_call` (crates/pass_slots/specs/PassSlots.antt). Assumes nothing.
use Rattle.std.specs.Prelude.{◌≡◌, List, ◌++◌, ◌+◌, ◌*◌, ◌≤◌, ℤ, length}
use Rattle.answers.specs.Limits.{max_passes}
use Rattle.decorrelation.specs.Lists.{decorrelation, analysis}
use Rattle.made_slots.specs.MadeSlots.{pass_slots}
use Rattle.pass_slots.specs.PassSlots.{PassesLeft, passes_call}

-- what the first list's call and the second list's call left, and the buffer that both left
pub record SlotCalls : Type 0 where
  pub first : PassesLeft
  pub second : PassesLeft
  pub left : List ℤ

-- `wv_decorrelate` by one list and then by a second
abbrev pub decorrelate_apart : List ℤ → List ℤ → List ℤ → SlotCalls
decorrelate_apart first second buffer =
    let one = passes_call decorrelation first buffer in
    let two = passes_call decorrelation second one.buffer in
    record { first = one; second = two; left = two.buffer }

-- `wv_analyse` by the second list and then by the first
abbrev pub analyse_apart : List ℤ → List ℤ → List ℤ → SlotCalls
analyse_apart first second buffer =
    let two = passes_call analysis second buffer in
    let one = passes_call analysis first two.buffer in
    record { first = one; second = two; left = one.buffer }

-- two calls that are accepted, with the slots of at most 16 passes together
pub record JoinableSlots (first second : List ℤ) (apart : SlotCalls) : Type 0 where
  pub first-accepted : apart.first.refusal ≡ 0
  pub second-accepted : apart.second.refusal ≡ 0
  pub at_most_16 : length first + length second ≤ max_passes * pass_slots

-- the joined call is accepted, and leaves the buffer that the two left, and the slots that both left
pub record SameSlots (apart : SlotCalls) (joined : PassesLeft) : Type 0 where
  pub joined-accepted : joined.refusal ≡ 0
  pub same-buffer : joined.buffer ≡ apart.left
  pub same_slots : joined.passes ≡ apart.first.passes ++ apart.second.passes

-- decorrelation (Q4.1, Q4.2)
abbrev pub DecorrelateJoined : Type 0
DecorrelateJoined =
    (first second buffer : List ℤ) → JoinableSlots first second (decorrelate_apart first second buffer)
    → SameSlots (decorrelate_apart first second buffer) (passes_call decorrelation (first ++ second) buffer)

-- analysis (Q4.3)
abbrev pub AnalyseJoined : Type 0
AnalyseJoined =
    (first second buffer : List ℤ) → JoinableSlots first second (analyse_apart first second buffer)
    → SameSlots (analyse_apart first second buffer) (passes_call analysis (first ++ second) buffer)
