use Rattle.std.proofs.Common.{arith, ◌∙◌}
use Rattle.residuals.proofs.PartLaws.{looked_out, looked_turn, looked_end}
use Rattle.residuals.proofs.residuals_in_span.Goals as goal

-- a residual of this part lies outside
pub returns-in_default : goal.returns-in_default
returns-in_default c =
    let s = c.in-Some.ensures.steps in
    looked_out _ _ _ _ _ _ _ c.loop-part.invariant.1 s.1.0 (omega (arith, s.1.1, c.loop-part.invariant.0)) _
    c.look_at_part.ensures c.in_default.is

-- none does
pub loop-part-preserved : goal.loop-part-preserved
loop-part-preserved c =
    let s = c.in-Some.ensures.steps in (
      s.0 ∙ c.loop-part.invariant.0,
      looked_turn _ _ _ _ _ _ _ c.loop-part.invariant.1 s.1.0 (omega (arith, s.1.1, c.loop-part.invariant.0)) _
          c.look_at_part.ensures _ c.in-Some-look_at_part.is,
    )

-- nothing is left
pub returns : goal.returns
returns c = looked_end _ _ _ _ _ c.loop-part.invariant.1 c.in-None.ensures.steps.1.0
