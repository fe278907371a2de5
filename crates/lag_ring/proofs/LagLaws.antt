-- The loop of the fixed lags: a turn of it is a step of the pass. Assumes nothing.
use mathlib.Core.Path.{◌≡◌, refl}
use mathlib.Core.Bool.{false}
use mathlib.Core.List.{List}
use Prim.Native.Nat.{ℕ, ◌+◌, ◌%◌, ◌<◌}
use native.Mathlib.Omega.{arith}
use lib.IntN.{ℤ}
use lib.ListN.{length, set}
use mir.Syntax.{w32}
use mir.Val.{SFits}
use mir.ValLaws.{to_z-of_z}
use Rattle.wrapping.proofs.ReadBack.{reread}
use Rattle.passes.specs.Step.{Stepped, slot, step, unstep, advanced}
use Rattle.passes.specs.Run.{turn}
use Rattle.passes.specs.declared.DecorrPass.{DecorrPass}
use Rattle.passes.specs.declared.Direction.{Direction}
use Rattle.passes.specs.declared.Direction.TheVariants.{Decorrelation, Analysis}
use Rattle.passes.specs.declared.Term.TheVariants.{Lag}
use Rattle.pass_turns.specs.Turns.{turned, frame_at, frame_stored, lag_at}
use Rattle.pass_turns.specs.declared.frames.Frame.{Frame}
use Rattle.pass_turns.specs.declared.turns.Turned.{Turned}
use Rattle.pass_turns.proofs.FrameLaws.{Done, FrameFits, TurnedFits, done-turn}

-- the slot that is written, as the code finds it
ring : (m t : ℕ) → (m % 8 + t % 8) % 8 ≡ (m + t) % 8
ring m t = omega arith

-- a step, by the two channels
lag_step : (d : Direction) (t : ℕ) (p : DecorrPass) (wa wb : ℤ) (ga gb : List ℤ) (m : ℕ) (x y : ℤ)
    → let a = turned d false wa p.delta (slot ga (m % 8)) x in let b = turned d false wb p.delta (slot gb (m % 8)) y in
    ◌≡◌ {A = Stepped}
    (record { pass = lag_at p a.weight b.weight (set ga ((m + t) % 8) a.sample) (set gb ((m + t) % 8) b.sample); a = a.element; b = b.element })
    (turn d (Lag t) (lag_at p wa wb ga gb) m x y)
unfolding step unstep advanced
lag_step Decorrelation t p wa wb ga gb m x y = refl
lag_step Analysis t p wa wb ga gb m x y = refl

module _ (d : Direction) (t : ℕ) (p : DecorrPass) (whole : List ℤ) where
  -- a turn of the loop
  pub lag_turn : {wa wb : ℤ} {ga gb l after : List ℤ} {m i : ℕ} {f : Frame} (A B : Turned) → Done (turn d (Lag t)) p whole (lag_at p wa wb ga gb) l m i → i + 1 < length l
      → f ≡ frame_at l i
      → A ≡ turned d false wa (reread p.delta) (reread (slot ga (m % 8))) (reread f.a)
      → B ≡ turned d false wb (reread p.delta) (reread (slot gb (m % 8))) (reread f.b)
      → after ≡ frame_stored l i (reread A.element) (reread B.element)
      → SFits w32 (slot ga (m % 8)) → SFits w32 (slot gb (m % 8)) → FrameFits f → TurnedFits A → TurnedFits B
      → let next = (m % 8 + t % 8) % 8 in
      Done (turn d (Lag t)) p whole (lag_at p (reread A.weight) (reread B.weight) (set ga next (reread A.sample)) (set gb next (reread B.sample))) after (m + 1) (i + 2)
  lag_turn {wa} {wb} {ga} {gb} {l} {after} {m} {i} {f} A B done h ef ea eb es fs ft ff fa fb =
      let next = (m + t) % 8 in
      let o : Stepped = record { pass = lag_at p A.weight B.weight (set ga next A.sample) (set gb next B.sample); a = A.element; b = B.element } in
      let eo : o ≡ turn d (Lag t) (lag_at p wa wb ga gb) m (slot l i) (slot l (i + 1)) =
      rw (ea, eb, to_z-of_z w32 _ ff.a, to_z-of_z w32 _ ff.b, ef, to_z-of_z w32 _ fs, to_z-of_z w32 _ ft, to_z-of_z w32 _ done.delta) (lag_step d t p wa wb ga gb m (slot l i) (slot l (i + 1))) in
      rw (ring m t, to_z-of_z w32 _ fa.weight, to_z-of_z w32 _ fa.sample, to_z-of_z w32 _ fb.weight, to_z-of_z w32 _ fb.sample)
      (done-turn (turn d (Lag t)) p whole o done h eo (rw (to_z-of_z w32 _ fa.element, to_z-of_z w32 _ fb.element) at es))
