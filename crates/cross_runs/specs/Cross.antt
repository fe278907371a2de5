-- The cross terms (P8): -1 and -2 as one choice, and the pass with the numbers that their loops carry.
-- The definition of a step stands in `passes`. Assumes nothing.
-- ---- for the code alone
use Rattle.std.specs.Prelude.{Bool, true, false, ◌∷◌, ℤ, drop}
use Rattle.passes.specs.declared.DecorrPass.{DecorrPass}
use Rattle.passes.specs.declared.Term.{Term}
use Rattle.passes.specs.declared.Term.TheVariants.{MinusOne, MinusTwo}
use Rattle.pass_turns.specs.Turns.{lag_at}

-- terms -2 and -1
abbrev pub cross_term : Bool → Term
cross_term true = MinusTwo
cross_term false = MinusOne

-- the loop of -1 and -2, where the channel that is made first has weight u
abbrev pub cross_at : Bool → DecorrPass → ℤ → ℤ → ℤ → DecorrPass
cross_at true p u v h = lag_at p v u p.history_a (h ∷ drop 1 p.history_b)
cross_at false p u v h = lag_at p u v (h ∷ drop 1 p.history_a) p.history_b

-- the loop of -3
abbrev pub swap_at : DecorrPass → ℤ → ℤ → ℤ → ℤ → DecorrPass
swap_at p wa wb ha hb = lag_at p wa wb (ha ∷ drop 1 p.history_a) (hb ∷ drop 1 p.history_b)
