-- The loop of term -3: a turn of it is a step of the pass. Assumes nothing.
use mathlib.Core.Path.{◌≡◌, refl}
use mathlib.Core.Bool.{true}
use mathlib.Core.List.{List}
use Prim.Native.Nat.{ℕ, ◌+◌, ◌/◌, ◌<◌}
use native.Mathlib.Omega.{arith}
use lib.IntN.{ℤ}
use lib.ListN.{length, set}
use mir.Syntax.{w32}
use mir.Val.{SFits}
use mir.ValLaws.{to_z-of_z}
use Rattle.wrapping.proofs.ReadBack.{reread}
use Rattle.passes.specs.Step.{Stepped, slot, step, unstep, advanced}
use Rattle.passes.specs.Run.{turn}
use Rattle.passes.specs.declared.DecorrPass.{DecorrPass}
use Rattle.passes.specs.declared.Direction.{Direction}
use Rattle.passes.specs.declared.Direction.TheVariants.{Decorrelation, Analysis}
use Rattle.passes.specs.declared.Term.TheVariants.{MinusThree}
use Rattle.pass_turns.specs.Turns.{turned, frame_at, frame_stored, lag_at}
use Rattle.pass_turns.specs.declared.frames.Frame.{Frame}
use Rattle.pass_turns.specs.declared.turns.Turned.{Turned}
use Rattle.pass_turns.proofs.TurnLaws.{kept}
use Rattle.pass_turns.proofs.FrameLaws.{Done, FrameFits, TurnedFits, done-turn, next-half}
use Rattle.cross_runs.specs.Cross.{swap_at}
use Rattle.cross_runs.proofs.HeadLaws.{head-back, head-set}

-- a step, by the two channels
swap_step : (d : Direction) (p : DecorrPass) (wa wb ha hb : ℤ) (m : ℕ) (x y : ℤ)
    → let a = turned d true wa p.delta hb x in let b = turned d true wb p.delta ha y in
    ◌≡◌ {A = Stepped} (record { pass = swap_at p a.weight b.weight a.sample b.sample; a = a.element; b = b.element })
    (turn d MinusThree (swap_at p wa wb ha hb) m x y)
unfolding step unstep advanced
swap_step Decorrelation p wa wb ha hb m x y = refl
swap_step Analysis p wa wb ha hb m x y = refl

module _ (d : Direction) (p : DecorrPass) (whole : List ℤ) where
  -- a turn of the loop
  pub swap_turn : {wa wb ha hb : ℤ} {l after : List ℤ} {i : ℕ} {f : Frame} (A B : Turned)
      → Done (turn d MinusThree) p whole (swap_at p wa wb ha hb) l (i / 2) i → i + 1 < length l
      → f ≡ frame_at l i
      → A ≡ turned d true wa (reread p.delta) hb (reread f.a)
      → B ≡ turned d true wb (reread p.delta) ha (reread f.b)
      → after ≡ frame_stored l i (reread A.element) (reread B.element) → FrameFits f → TurnedFits A
      → TurnedFits B
      → let q = swap_at p (reread A.weight) (reread B.weight) (reread A.sample) (reread B.sample)
      in
      Done (turn d MinusThree) p whole q after ((i + 2) / 2) (i + 2)
  swap_turn {wa} {wb} {ha} {hb} {l} {after} {i} {f} A B done h ef ea eb es ff fa fb =
      let o : Stepped = record {
        pass = swap_at p A.weight B.weight A.sample B.sample;
        a = A.element;
        b = B.element;
      } in
      let eo : o ≡ turn d MinusThree (swap_at p wa wb ha hb) (i / 2) (slot l i) (slot l (i + 1)) =
      rw (ea, eb, to_z-of_z w32 _ ff.a, to_z-of_z w32 _ ff.b, ef, to_z-of_z w32 _ done.delta)
      (swap_step d p wa wb ha hb (i / 2) (slot l i) (slot l (i + 1))) in
      rw (to_z-of_z w32 _ fa.weight, to_z-of_z w32 _ fa.sample, to_z-of_z w32 _ fb.weight, to_z-of_z w32 _ fb.sample)
      (rw (next-half i) at (done-turn (turn d MinusThree) p whole o done h eo
      (rw (to_z-of_z w32 _ fa.element, to_z-of_z w32 _ fb.element) at es)))

-- where the loop starts
pub swap_start : (p : DecorrPass) {A B : ℤ} → A ≡ slot p.history_a 0 → B ≡ slot p.history_b 0
    → length p.history_a ≡ 8 → length p.history_b ≡ 8 → SFits w32 p.weight_a
    → SFits w32 p.weight_b
    → SFits w32 A → SFits w32 B
    → swap_at p (reread p.weight_a) (reread p.weight_b) (reread A) (reread B) ≡ p
swap_start p {A} {B} ea eb ha hb fa fb gA gB =
    kept p (rw (to_z-of_z w32 A gA, ea) (head-back _ (omega (arith, ha))))
    (rw (to_z-of_z w32 B gB, eb) (head-back _ (omega (arith, hb)))) fa fb

-- the pass that is put together after the loop
pub swap_end : (p : DecorrPass) (wa wb a b : ℤ) → length p.history_a ≡ 8 → length p.history_b ≡ 8
    → SFits w32 wa → SFits w32 wb → SFits w32 a → SFits w32 b
    → lag_at p (reread wa) (reread wb) (set p.history_a 0 (reread a))
    (set p.history_b 0 (reread b)) ≡ swap_at p wa wb a b
swap_end p wa wb a b ha hb fwa fwb fa fb =
    rw (
      to_z-of_z w32 wa fwa,
      to_z-of_z w32 wb fwb,
      to_z-of_z w32 a fa,
      to_z-of_z w32 b fb,
      head-set p.history_a a (omega (arith, ha)),
      head-set p.history_b b (omega (arith, hb)),
    )
