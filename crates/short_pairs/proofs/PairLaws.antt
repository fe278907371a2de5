-- The loop over short words: what holds between two of its turns.
-- Assumes nothing.
use mathlib.Core.Path.{◌≡◌}
use mathlib.Core.Bool.{true}
use mathlib.Core.List.{List}
use Prim.Native.Nat.{ℕ, ◌%◌}
use native.Mathlib.Omega.{arith}
use lib.IntN.{ℤ}
use Rattle.short_steps.specs.Onward.{Onward}
use Rattle.short_steps.specs.Steps.{Ready, StepIs}
use Rattle.short_steps.specs.declared.standing.Standing.{Standing}
use Rattle.short_steps.specs.declared.Step.{Step}
use Rattle.short_steps.proofs.OnwardLaws.{onward_then}

-- between two turns: words were read, a left one is due, and no run length stands before it
pub record Pairs (payload : List ℕ) (out₀ out : List ℤ) (from at : Standing) (w : ℕ) : Type 0 where
  pub onward : Onward payload out₀ out from at
  pub ready : Ready payload at w
  pub channel : at.written % 2 ≡ 0

-- a turn: both words further
pub pairs_on : (payload : List ℕ) (out₀ out a b : List ℤ) (from at : Standing) (w : ℕ) (l r : Step)
    → Pairs payload out₀ out from at w → StepIs payload out a at l → l.on ≡ true
    → StepIs payload a b l.at r → r.on ≡ true → Pairs payload out₀ b from r.at r.w
pairs_on payload out₀ out a b from at w l r p s e t f = record {
  onward = onward_then _ _ _ _ _ _ _ (onward_then _ _ _ _ _ _ _ p.onward s.onward) t.onward;
  ready = t.ready f;
  channel = omega (arith, p.channel, s.next e, t.next f);
}
