-- The loop of terms 17 and 18: a turn of it is a step of the pass. Assumes nothing.
use mathlib.Core.Path.{◌≡◌, refl}
use mathlib.Core.Bool.{Bool, true, false}
use mathlib.Core.List.{List, [], ◌∷◌}
use Prim.Native.Nat.{ℕ, ◌+◌, ◌/◌, ◌<◌}
use native.Mathlib.Omega.{arith}
use lib.IntN.{ℤ, pos}
use lib.ListN.{length, get_or, set, drop}
use mir.Syntax.{w32}
use mir.Val.{Val, SFits}
use mir.ValLaws.{to_z-of_z}
use denote.Laws.{Is}
use Rattle.wrapping.proofs.ReadBack.{reread}
use Rattle.passes.specs.Step.{Stepped, slot, step, unstep, advanced}
use Rattle.passes.specs.Run.{turn}
use Rattle.passes.specs.declared.DecorrPass.{DecorrPass}
use Rattle.passes.specs.declared.Direction.{Direction}
use Rattle.passes.specs.declared.Direction.TheVariants.{Decorrelation, Analysis}
use Rattle.pass_turns.specs.Turns.{turned, frame_at, frame_stored, lag_at}
use Rattle.pass_turns.specs.declared.frames.Frame.{Frame}
use Rattle.pass_turns.specs.declared.turns.Turned.{Turned}
use Rattle.two_runs.specs.Two.{two_term, two_source, last_two, two_at}
use Rattle.two_runs.specs.declared.LastTwo.{LastTwo}
use Rattle.two_runs.specs.contracts.LastTwo as L
use Rattle.pass_turns.proofs.TurnLaws.{kept}
use Rattle.pass_turns.proofs.FrameLaws.{Done, FrameFits, TurnedFits, done-turn, next-half}

-- a history by its first two slots and the rest
pub two_back : (l : List ℤ) → 1 < length l → get_or l 0 (pos 0) ∷ (get_or l 1 (pos 0) ∷ drop 2 l) ≡ l
two_back [] h = absurd (omega arith)
two_back (x ∷ []) h = absurd (omega arith)
two_back (x ∷ (y ∷ l)) h = refl

-- a history whose first two slots were set
pub two-set : (l : List ℤ) (x y : ℤ) → 1 < length l → set (set l 0 x) 1 y ≡ x ∷ (y ∷ drop 2 l)
two-set [] x y h = absurd (omega arith)
two-set (a ∷ []) x y h = absurd (omega arith)
two-set (a ∷ (b ∷ l)) x y h = refl

-- the numbers of a channel's last two samples are 32-bit numbers
pub record LastFits (t : LastTwo) : Type 0 where
  pub last : SFits w32 t.last
  pub before : SFits w32 t.before

-- what a call tells of its result
pub last_fits : (t : LastTwo) (vs : List Val) → Is L.the_row t vs → LastFits t
last_fits t vs g = record {
  last = record { sfits = g.1.1.0.1 };
  before = record
      { sfits = g.1.1.1.0.1 };
}

-- where the loop starts
pub two-start : (p : DecorrPass) {A B : LastTwo} → A ≡ last_two p.history_a → B ≡ last_two p.history_b
    → length p.history_a ≡ 8 → length p.history_b ≡ 8 → SFits w32 p.weight_a
    → SFits w32 p.weight_b
    → LastFits A → LastFits B
    → two_at p (reread p.weight_a) (reread p.weight_b)
    (reread A.last) (reread A.before) (reread B.last) (reread B.before) ≡ p
two-start p {A} {B} ea eb la lb fa fb ga gb =
    rw (
      to_z-of_z w32 _ ga.last,
      to_z-of_z w32 _ ga.before,
      to_z-of_z w32 _ gb.last,
      to_z-of_z w32 _ gb.before,
      ea,
      eb,
      two_back p.history_a (omega (arith, la)),
      two_back p.history_b (omega (arith, lb)),
    ) (kept p refl refl fa fb)

-- the pass that is put together after the loop
pub two-end : (p : DecorrPass) (wa wb a0 a1 b0 b1 : ℤ) → length p.history_a ≡ 8
    → length p.history_b ≡ 8
    → SFits w32 wa → SFits w32 wb → SFits w32 a0 → SFits w32 a1 → SFits w32 b0 → SFits w32 b1
    → lag_at p (reread wa) (reread wb)
    (set (set p.history_a 0 (reread a0)) 1 (reread a1)) (set (set p.history_b 0 (reread b0)) 1
    (reread b1))
    ≡ two_at p wa wb a0 a1 b0 b1
two-end p wa wb a0 a1 b0 b1 la lb fwa fwb fa0 fa1 fb0 fb1 =
    rw (
      to_z-of_z w32 wa fwa,
      to_z-of_z w32 wb fwb,
      to_z-of_z w32 a0 fa0,
      to_z-of_z w32 a1 fa1,
      to_z-of_z w32 b0 fb0,
      to_z-of_z w32 b1 fb1,
      two-set p.history_a a0 a1 (omega (arith, la)),
      two-set p.history_b b0 b1 (omega (arith, lb)),
    )

-- a step, by the two channels
two-step : (d : Direction) (eighteen : Bool) (p : DecorrPass) (wa wb a0 a1 b0 b1 : ℤ) (m : ℕ) (x y : ℤ)
    → let a = turned d false wa p.delta (two_source eighteen a0 a1) x in let b = turned d false wb p.delta (two_source eighteen b0 b1) y in
    ◌≡◌ {A = Stepped} (record { pass = two_at p a.weight b.weight a.sample a0 b.sample b0; a = a.element; b = b.element })
    (turn d (two_term eighteen) (two_at p wa wb a0 a1 b0 b1) m x y)
unfolding step unstep advanced
two-step Decorrelation true p wa wb a0 a1 b0 b1 m x y = refl
two-step Decorrelation false p wa wb a0 a1 b0 b1 m x y = refl
two-step Analysis true p wa wb a0 a1 b0 b1 m x y = refl
two-step Analysis false p wa wb a0 a1 b0 b1 m x y = refl

module _ (d : Direction) (eighteen : Bool) (p : DecorrPass) (whole : List ℤ) where
  -- a turn of the loop
  pub two-turn : {wa wb a0 a1 b0 b1 S T : ℤ} {l after : List ℤ} {i : ℕ} {f : Frame} (A B : Turned)
      → Done (turn d (two_term eighteen)) p whole (two_at p wa wb a0 a1 b0 b1) l (i / 2) i → i + 1 < length l
      → f ≡ frame_at l i → S ≡ two_source eighteen a0 a1 → T ≡ two_source eighteen b0 b1
      → A ≡ turned d false wa (reread p.delta) (reread S) (reread f.a)
      → B ≡ turned d false wb (reread p.delta) (reread T) (reread f.b)
      → after ≡ frame_stored l i (reread A.element) (reread B.element)
      → SFits w32 S → SFits w32 T → FrameFits f → TurnedFits A → TurnedFits B
      → let q = two_at p (reread A.weight) (reread B.weight) (reread A.sample) a0
      (reread B.sample) b0 in
      Done (turn d (two_term eighteen)) p whole q after ((i + 2) / 2) (i + 2)
  two-turn {wa} {wb} {a0} {a1} {b0} {b1} {S} {T} {l} {after} {i} {f} A B done h ef es et ea eb ex fs ft ff
      fa fb =
      let o : Stepped = record {
        pass = two_at p A.weight B.weight A.sample a0 B.sample b0;
        a = A.element;
        b = B.element;
      } in
      let eo : o ≡ turn d (two_term eighteen) (two_at p wa wb a0 a1 b0 b1) (i / 2) (slot l i) (slot l (i + 1)) =
      rw (
        ea,
        eb,
        to_z-of_z w32 _ ff.a,
        to_z-of_z w32 _ ff.b,
        ef,
        to_z-of_z w32 S fs,
        to_z-of_z w32 T ft,
        es,
        et,
      )
      (rw (to_z-of_z w32 _ done.delta) (two-step d eighteen p wa wb a0 a1 b0 b1 (i / 2) (slot l i)
      (slot l (i + 1)))) in
      rw (to_z-of_z w32 _ fa.weight, to_z-of_z w32 _ fa.sample, to_z-of_z w32 _ fb.weight, to_z-of_z w32 _ fb.sample)
      (rw (next-half i) at (done-turn (turn d (two_term eighteen)) p whole o done h eo
      (rw (to_z-of_z w32 _ fa.element, to_z-of_z w32 _ fb.element) at ex)))
