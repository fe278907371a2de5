-- The laws of one channel's step: what the calls leave. Assumes nothing.
use mathlib.Core.Path.{◌≡◌}
use mathlib.Core.Bool.{Bool, true, false}
use mathlib.Core.List.{List}
use lib.IntN.{ℤ}
use mir.Syntax.{w32}
use mir.Val.{SFits}
use mir.ValLaws.{to_z-of_z}
use Rattle.wrapping.proofs.ReadBack.{reread}
use Rattle.weights.specs.Weights.{sample, residual}
use Rattle.weights.proofs.UpdateLaws.{updated-sym, updated_clip-sym}
use Rattle.passes.specs.Step.{weighed}
use Rattle.passes.specs.declared.DecorrPass.{DecorrPass}
use Rattle.passes.specs.declared.Direction.{Direction}
use Rattle.passes.specs.declared.Direction.TheVariants.{Decorrelation, Analysis}
use Rattle.pass_turns.specs.Turns.{turned, lag_at}
use Rattle.pass_turns.specs.declared.turns.Turned.{Turned}

weighed-sym : (c : Bool) (w d x y : ℤ) → weighed c w d x y ≡ weighed c w d y x
weighed-sym true w d x y = updated_clip-sym w d x y
weighed-sym false w d x y = updated-sym w d x y

module _ (c : Bool) (w d s x : ℤ) where
  -- analysis, by what its calls answer
  pub analysis-raw : {b : Direction} {r n : ℤ} → b ≡ Analysis → r ≡ residual (reread w) (reread s) (reread x) → n ≡ weighed c (reread w) (reread d) (reread r) (reread s)
      → SFits w32 w → SFits w32 d → SFits w32 s → SFits w32 x → SFits w32 r → SFits w32 n
      → ◌≡◌ {A = Turned} (record { weight = reread n; element = reread r; sample = reread x }) (turned b c w d s x)
  analysis-raw {b} {r} {n} eb er en fw fd fs fx fr fn =
      rw (eb, to_z-of_z w32 n fn, en, to_z-of_z w32 r fr, er, to_z-of_z w32 w fw, to_z-of_z w32 d fd, to_z-of_z w32 s fs, to_z-of_z w32 x fx, weighed-sym c w d (residual w s x) s)

  -- decorrelation, by what its calls answer
  pub decorrelation-raw : {b : Direction} {a n : ℤ} → b ≡ Decorrelation → a ≡ sample (reread w) (reread s) (reread x) → n ≡ weighed c (reread w) (reread d) (reread s) (reread x)
      → SFits w32 w → SFits w32 d → SFits w32 s → SFits w32 x → SFits w32 a → SFits w32 n
      → ◌≡◌ {A = Turned} (record { weight = reread n; element = reread a; sample = reread a }) (turned b c w d s x)
  decorrelation-raw {b} {a} {n} eb ea en fw fd fs fx fa fn =
      rw (eb, to_z-of_z w32 n fn, en, to_z-of_z w32 a fa, ea, to_z-of_z w32 w fw, to_z-of_z w32 d fd, to_z-of_z w32 s fs, to_z-of_z w32 x fx)

-- a pass whose numbers are read back from their bits
pub kept : (p : DecorrPass) {ha hb : List ℤ} → ha ≡ p.history_a → hb ≡ p.history_b → SFits w32 p.weight_a → SFits w32 p.weight_b
    → lag_at p (reread p.weight_a) (reread p.weight_b) ha hb ≡ p
kept p ea eb fa fb = rw (ea, eb, to_z-of_z w32 _ fa, to_z-of_z w32 _ fb)
