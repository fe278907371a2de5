-- A fixed lag whose samples are looked back at in the buffer (P8): where they stand, and what the
-- ring of the definition holds meanwhile. Assumes nothing.
-- ---- for the code alone
use Rattle.std.specs.Prelude.{◌≡◌, cond, List, ℕ, ◌+◌, ◌-◌, ◌*◌, ◌/◌, ◌%◌, ◌≤◌, ◌<◌, ltb, ℤ, length}
use Rattle.passes.specs.Step.{slot}
use Rattle.passes.specs.Run.{Run, run, turn}
use Rattle.passes.specs.declared.DecorrPass.{DecorrPass}
use Rattle.passes.specs.declared.Direction.TheVariants.{Decorrelation}
use Rattle.passes.specs.declared.Term.TheVariants.{Lag}
use Rattle.pass_turns.specs.Turns.{frame_at, lag_at}
use Rattle.pass_turns.specs.declared.frames.Frame.{Frame}
use Rattle.lag_runs.specs.declared.Weights.{Weights}

-- the frame before the frame at i by the lag; in the first frames what the pass held at its start
abbrev pub looked_back : DecorrPass → ℕ → List ℤ → ℕ → Frame
looked_back p lag l i = cond (ltb i (2 * lag)) (record { a = slot p.history_a (i / 2); b = slot p.history_b (i / 2) }) (frame_at l (i - 2 * lag))

-- a ring of eight holds the samples of the frames from `first` up to m, of the last eight of them:
-- those of a channel of the buffer l, 0 for A and 1 for B
pub record Ring (lag : ℕ) (h l : List ℤ) (channel first m : ℕ) : Type 0 where
  pub eight : length h ≡ 8
  pub holds : (j : ℕ) → first ≤ j → j < m → m ≤ j + 8 → slot h ((j + lag) % 8) ≡ slot l (2 * j + channel)

-- a pass over a whole buffer, by its weights; its rings hold the last samples
pub record BackIs (lag : ℕ) (start : DecorrPass) (whole after : List ℤ) (r : Weights) : Type 0 where
  pub ring-a : List ℤ
  pub ring-b : List ℤ
  pub is : ◌≡◌ {A = Run} (record { pass = lag_at start r.a r.b ring-a ring-b; buffer = after }) (run (turn Decorrelation (Lag lag)) start 0 whole)
  pub same : length after ≡ length whole
  pub a-holds : Ring lag ring-a after 0 0 (length after / 2)
  pub b-holds : Ring lag ring-b after 1 0 (length after / 2)

-- the pass with these weights whose rings hold the last eight samples of a buffer
pub record BehindIs (lag : ℕ) (start : DecorrPass) (wa wb : ℤ) (l : List ℤ) (r : DecorrPass) : Type 0 where
  pub ring-a : List ℤ
  pub ring-b : List ℤ
  pub is : r ≡ lag_at start wa wb ring-a ring-b
  pub a-holds : Ring lag ring-a l 0 (length l / 2 - 8) (length l / 2)
  pub b-holds : Ring lag ring-b l 1 (length l / 2 - 8) (length l / 2)
