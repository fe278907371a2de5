-- The loop of terms -1 and -2: a turn of it is a step of the pass, and its start and end are the
-- pass. Assumes nothing.
use mathlib.Core.Path.{◌≡◌, refl}
use mathlib.Core.Bool.{Bool, true, false, cond}
use mathlib.Core.List.{List}
use Prim.Native.Nat.{ℕ, ◌+◌, ◌*◌, ◌/◌, ◌<◌}
use native.Mathlib.Omega.{arith}
use lib.IntN.{ℤ}
use lib.ListN.{length, set}
use mir.Syntax.{w32}
use mir.Val.{SFits}
use mir.ValLaws.{to_z-of_z}
use Rattle.wrapping.proofs.ReadBack.{reread}
use Rattle.passes.specs.Step.{Stepped, slot, step, unstep, advanced}
use Rattle.passes.specs.Run.{turn}
use Rattle.passes.specs.declared.DecorrPass.{DecorrPass}
use Rattle.passes.specs.declared.Direction.{Direction}
use Rattle.passes.specs.declared.Direction.TheVariants.{Decorrelation, Analysis}
use Rattle.pass_turns.specs.Turns.{turned, frame_at, frame_stored, lag_at}
use Rattle.pass_turns.specs.declared.frames.Frame.{Frame}
use Rattle.pass_turns.specs.declared.turns.Turned.{Turned}
use Rattle.pass_turns.proofs.FrameLaws.{Done, FrameFits, TurnedFits, done-turn}
use Rattle.cross_runs.specs.Cross.{cross_term, cross_at}
use Rattle.cross_runs.proofs.HeadLaws.{head-back, head-set}

-- a step, by the two channels: `f` exchanges them
cross_step : (d : Direction) (f : Bool) (p : DecorrPass) (u v k : ℤ) (m : ℕ) (x y : ℤ)
    → let a = turned d true u p.delta k (cond f y x) in let b = turned d true v p.delta a.sample (cond f x y) in
    ◌≡◌ {A = Stepped} (record { pass = cross_at f p a.weight b.weight b.sample; a = cond f b.element a.element; b = cond f a.element b.element })
    (turn d (cross_term f) (cross_at f p u v k) m x y)
unfolding step unstep advanced
cross_step Decorrelation true p u v k m x y = refl
cross_step Decorrelation false p u v k m x y = refl
cross_step Analysis true p u v k m x y = refl
cross_step Analysis false p u v k m x y = refl

module _ (d : Direction) (f : Bool) (p : DecorrPass) (whole : List ℤ) where
  -- a turn of the loop
  pub cross_turn : (u v k : ℤ) {X Y C D : ℤ} {l after : List ℤ} {m : ℕ} {r : Frame} (A B : Turned)
      → Done (turn d (cross_term f)) p whole (cross_at f p u v k) l m (2 * m) → m < length l / 2
      → r ≡ frame_at l (2 * m)
      → X ≡ cond f (reread r.b) (reread r.a) → Y ≡ cond f (reread r.a) (reread r.b)
      → A ≡ turned d true u (reread p.delta) k (reread X)
      → B ≡ turned d true v (reread p.delta) (reread A.sample) (reread Y)
      → C ≡ cond f (reread B.element) (reread A.element)
      → D ≡ cond f (reread A.element) (reread B.element)
      → after ≡ frame_stored l (2 * m) (reread C) (reread D)
      → FrameFits r → SFits w32 X → SFits w32 Y → TurnedFits A → TurnedFits B → SFits w32 C → SFits w32 D
      → let q = cross_at f p (reread A.weight) (reread B.weight) (reread B.sample) in
      Done (turn d (cross_term f)) p whole q after (m + 1) (2 * (m + 1))
  cross_turn u v k {X} {Y} {C} {D} {l} {after} {m} {r} A B done h er ex ey ea eb ec ed es fr fX fY fa fb fC
      fD =
      let two : 2 * m + 2 ≡ 2 * (m + 1) = omega arith in
      let inside : 2 * m + 1 < length l = omega arith in
      let eb' : B ≡ turned d true v p.delta A.sample Y =
      rw (to_z-of_z w32 _ done.delta, to_z-of_z w32 _ fa.sample, to_z-of_z w32 Y fY) at eb in
      let ea' : A ≡ turned d true u p.delta k X = rw (to_z-of_z w32 _ done.delta, to_z-of_z w32 X fX) at ea in
      let ec' : C ≡ cond f B.element A.element =
      rw (to_z-of_z w32 _ fa.element, to_z-of_z w32 _ fb.element) at ec in
      let ed' : D ≡ cond f A.element B.element =
      rw (to_z-of_z w32 _ fa.element, to_z-of_z w32 _ fb.element) at ed in
      let o : Stepped = record { pass = cross_at f p A.weight B.weight B.sample; a = C; b = D } in
      let eo : o ≡ turn d (cross_term f) (cross_at f p u v k) m (slot l (2 * m)) (slot l (2 * m + 1)) =
      rw (ec', ed', eb', ea', ex, ey, to_z-of_z w32 _ fr.a, to_z-of_z w32 _ fr.b, er)
      (cross_step d f p u v k m (slot l (2 * m)) (slot l (2 * m + 1))) in
      rw (to_z-of_z w32 _ fa.weight, to_z-of_z w32 _ fb.weight, to_z-of_z w32 _ fb.sample)
      (rw two at (done-turn (turn d (cross_term f)) p whole o done inside eo
      (rw (to_z-of_z w32 C fC, to_z-of_z w32 D fD) at es)))

-- where the loop starts
pub cross_start : (f : Bool) (p : DecorrPass) {A B U W K : ℤ} → A ≡ slot p.history_a 0
    → B ≡ slot p.history_b 0
    → U ≡ cond f (reread p.weight_b) (reread p.weight_a)
    → W ≡ cond f (reread p.weight_a) (reread p.weight_b) → K ≡ cond f (reread B) (reread A)
    → length p.history_a ≡ 8 → length p.history_b ≡ 8 → SFits w32 p.weight_a
    → SFits w32 p.weight_b
    → SFits w32 A → SFits w32 B → SFits w32 U → SFits w32 W → SFits w32 K
    → cross_at f p (reread U) (reread W) (reread K) ≡ p
cross_start true p {A} {B} {U} {W} {K} eA eB eu ev ek ha hb fa fb fA fB fu fv fk =
    rw (
      to_z-of_z w32 U fu,
      to_z-of_z w32 W fv,
      to_z-of_z w32 K fk,
      eu,
      ev,
      ek,
      to_z-of_z w32 _ fa,
      to_z-of_z w32 _ fb,
      to_z-of_z w32 B fB,
      eB,
      head-back p.history_b (omega (arith, hb)),
    )
cross_start false p {A} {B} {U} {W} {K} eA eB eu ev ek ha hb fa fb fA fB fu fv fk =
    rw (
      to_z-of_z w32 U fu,
      to_z-of_z w32 W fv,
      to_z-of_z w32 K fk,
      eu,
      ev,
      ek,
      to_z-of_z w32 _ fa,
      to_z-of_z w32 _ fb,
      to_z-of_z w32 A fA,
      eA,
      head-back p.history_a (omega (arith, ha)),
    )

-- the pass that is put together after the loop
pub cross_end : (f : Bool) (p : DecorrPass) (u v k : ℤ) {U W A B : ℤ}
    → A ≡ cond f (reread (slot p.history_a 0)) (reread k)
    → B ≡ cond f (reread k) (reread (slot p.history_b 0))
    → U ≡ cond f (reread v) (reread u) → W ≡ cond f (reread u) (reread v)
    → length p.history_a ≡ 8 → length p.history_b ≡ 8 → SFits w32 u → SFits w32 v → SFits w32 k
    → SFits w32 (slot p.history_a 0) → SFits w32 (slot p.history_b 0)
    → SFits w32 A → SFits w32 B → SFits w32 U → SFits w32 W
    → lag_at p (reread U) (reread W) (set p.history_a 0 (reread A)) (set p.history_b 0 (reread B)) ≡ cross_at f p u v k
cross_end true p u v k {U} {W} {A} {B} ea eb eu ev ha hb fu fv fk fa fb f1 f2 f3 f4 =
    rw (
      to_z-of_z w32 A f1,
      to_z-of_z w32 B f2,
      to_z-of_z w32 U f3,
      to_z-of_z w32 W f4,
      ea,
      eb,
      eu,
      ev,
      to_z-of_z w32 u fu,
      to_z-of_z w32 v fv,
      to_z-of_z w32 k fk,
      to_z-of_z w32 _ fa,
      head-set p.history_a _ (omega (arith, ha)),
      head-back p.history_a (omega (arith, ha)),
      head-set p.history_b _ (omega (arith, hb)),
    )
cross_end false p u v k {U} {W} {A} {B} ea eb eu ev ha hb fu fv fk fa fb f1 f2 f3 f4 =
    rw (
      to_z-of_z w32 A f1,
      to_z-of_z w32 B f2,
      to_z-of_z w32 U f3,
      to_z-of_z w32 W f4,
      ea,
      eb,
      eu,
      ev,
      to_z-of_z w32 u fu,
      to_z-of_z w32 v fv,
      to_z-of_z w32 k fk,
      to_z-of_z w32 _ fb,
      head-set p.history_b _ (omega (arith, hb)),
      head-back p.history_b (omega (arith, hb)),
      head-set p.history_a _ (omega (arith, ha)),
    )
