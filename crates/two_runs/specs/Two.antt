-- Terms 17 and 18 (P8): the two terms as one choice, their sources, and the pass with the numbers that
-- their loop carries. The definition of a step stands in `passes`. Assumes nothing.
-- ---- for the code alone
use Rattle.std.specs.Prelude.{Bool, true, false, List, ◌∷◌, ℤ, drop}
use Rattle.weights.specs.Weights.{source17, source18}
use Rattle.passes.specs.Step.{slot}
use Rattle.passes.specs.declared.DecorrPass.{DecorrPass}
use Rattle.passes.specs.declared.Term.{Term}
use Rattle.passes.specs.declared.Term.TheVariants.{Seventeen, Eighteen}
use Rattle.pass_turns.specs.Turns.{lag_at}
use Rattle.two_runs.specs.declared.LastTwo.{LastTwo}

-- terms 18 and 17
abbrev pub two_term : Bool → Term
two_term true = Eighteen
two_term false = Seventeen

-- their sources
abbrev pub two_source : Bool → ℤ → ℤ → ℤ
two_source true last before = source18 last before
two_source false last before = source17 last before

-- the last two samples that a history holds
abbrev pub last_two : List ℤ → LastTwo
last_two history = record { last = slot history 0; before = slot history 1 }

-- a pass with other weights, and the last two samples of each channel in its histories
abbrev pub two_at : DecorrPass → ℤ → ℤ → ℤ → ℤ → ℤ → ℤ → DecorrPass
two_at p wa wb a0 a1 b0 b1 =
    lag_at p wa wb (a0 ∷ (a1 ∷ drop 2 p.history_a)) (b0 ∷ (b1 ∷ drop 2 p.history_b))
