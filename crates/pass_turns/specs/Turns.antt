-- One channel's step in either direction, as the loops make it, and the pass with the numbers that
-- a loop carries. The definition of a step stands in `passes`. Assumes nothing.
-- ---- for the code alone
use Rattle.std.specs.Prelude.{Bool, List, ℕ, ◌+◌, ℤ, set}
use Rattle.weights.specs.Weights.{sample, residual}
use Rattle.passes.specs.Step.{slot, weighed}
use Rattle.passes.specs.declared.DecorrPass.{DecorrPass}
use Rattle.passes.specs.declared.Direction.{Direction}
use Rattle.passes.specs.declared.Direction.TheVariants.{Decorrelation, Analysis}
use Rattle.pass_turns.specs.declared.frames.Frame.{Frame}
use Rattle.pass_turns.specs.declared.turns.Turned.{Turned}

-- the two elements of a buffer from i on
abbrev pub frame_at : List ℤ → ℕ → Frame
frame_at l i = record { a = slot l i; b = slot l (i + 1) }

-- a buffer with other ones there
abbrev pub frame_stored : List ℤ → ℕ → ℤ → ℤ → List ℤ
frame_stored l i a b = set (set l i a) (i + 1) b

-- a channel with this weight and source, at the buffer's element x; `clip` for the cross terms
abbrev pub turned : Direction → Bool → ℤ → ℤ → ℤ → ℤ → Turned
turned Analysis clip weight delta source x =
    let r = residual weight source x in
    record { weight = weighed clip weight delta source r; element = r; sample = x }
turned Decorrelation clip weight delta source x =
    let s = sample weight source x in
    record { weight = weighed clip weight delta source x; element = s; sample = s }

-- a pass with the numbers that a loop carries: its weights and histories
abbrev pub lag_at : DecorrPass → ℤ → ℤ → List ℤ → List ℤ → DecorrPass
lag_at p wa wb ha hb = record { term = p.term; delta = p.delta; weight_a = wa; weight_b = wb; history_a = ha; history_b = hb }
