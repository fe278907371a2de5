-- What holds at a turn of each of the loops over a buffer, and what a frame makes of it: once
-- for all of them. Assumes nothing.
use mathlib.Core.Path.{◌≡◌, refl, sym, ap, ◌∙◌}
use mathlib.Core.List.{List}
use Prim.Native.Nat.{ℕ, ◌+◌, ◌/◌, ◌<◌, ◌≤◌}
use native.Mathlib.Numerals.{add-one, add-two}
use native.Mathlib.Omega.{arith}
use lib.IntN.{ℤ}
use lib.ListN.{length, take, drop, length-set}
use mir.Syntax.{w32}
use mir.Val.{Val, SFits}
use denote.Laws.{Is}
use Rattle.passes.specs.Step.{Stepped, slot}
use Rattle.passes.specs.Run.{Run, run}
use Rattle.passes.specs.declared.DecorrPass.{DecorrPass}
use Rattle.passes.proofs.LoopLaws.{joined, one-turn, no_turn}
use Rattle.pass_turns.specs.Turns.{frame_stored}
use Rattle.pass_turns.specs.declared.frames.Frame.{Frame}
use Rattle.pass_turns.specs.declared.turns.Turned.{Turned}
use Rattle.passes.specs.contracts.DecorrPass as P
use Rattle.pass_turns.specs.contracts.frames.Frame as F
use Rattle.pass_turns.specs.contracts.turns.Turned as T

-- m frames, i elements, are done: the loop carries the pass p, and the buffer holds l
pub record Done (F : DecorrPass → ℕ → ℤ → ℤ → Stepped) (start : DecorrPass) (whole : List ℤ) (p : DecorrPass) (l : List ℤ) (m i : ℕ) : Type 0 where
  pub within : i ≤ length l
  pub long : length l ≡ length whole
  pub index : m ≤ i
  pub small : length whole < 18446744073709551616
  pub delta : SFits w32 start.delta
  pub same : joined (take i l) (run F p m (drop i l)) ≡ run F start 0 whole

-- a loop that does not look at the history index need not carry it
pub next-half : (i : ℕ) → i / 2 + 1 ≡ (i + 2) / 2
next-half i = omega arith

-- the numbers of a pass are 32-bit numbers, and its histories have eight of them
pub record PassFits (p : DecorrPass) : Type 0 where
  pub delta : SFits w32 p.delta
  pub weight-a : SFits w32 p.weight_a
  pub weight-b : SFits w32 p.weight_b
  pub eight-a : length p.history_a ≡ 8
  pub eight-b : length p.history_b ≡ 8

-- what is told of a pass that a function is called with
pub pass_fits : (p : DecorrPass) (vs : List Val) → Is P.the_row p vs → PassFits p
pass_fits p vs g =
    record {
      delta = record { sfits = g.1.1.1.0.1 };
      weight-a = record { sfits = g.1.1.1.1.0.1 };
      weight-b = record { sfits = g.1.1.1.1.1.0.1 };
      eight-a = g.1.1.1.1.1.1.0.1.0.1;
      eight-b = g.1.1.1.1.1.1.1.0.1.0.1;
    }

-- the numbers of a frame are 32-bit numbers
pub record FrameFits (f : Frame) : Type 0 where
  pub a : SFits w32 f.a
  pub b : SFits w32 f.b

-- what a call tells of its result
pub frame-fits : (f : Frame) (vs : List Val) → Is F.the_row f vs → FrameFits f
frame-fits f vs g = record { a = record { sfits = g.1.1.0.1 }; b = record { sfits = g.1.1.1.0.1 } }

-- so are those of a channel's step
pub record TurnedFits (t : Turned) : Type 0 where
  pub weight : SFits w32 t.weight
  pub element : SFits w32 t.element
  pub sample : SFits w32 t.sample

pub turned-fits : (t : Turned) (vs : List Val) → Is T.the_row t vs → TurnedFits t
turned-fits t vs g = record { weight = record { sfits = g.1.1.0.1 }; element = record { sfits = g.1.1.1.0.1 }; sample = record { sfits = g.1.1.1.1.0.1 } }

module _ (F : DecorrPass → ℕ → ℤ → ℤ → Stepped) (start : DecorrPass) (whole : List ℤ) where
  -- the loop starts with the pass
  pub done-start : {p : DecorrPass} → p ≡ start → SFits w32 start.delta
      → length whole < 18446744073709551616 → Done F start whole p whole 0 0
  done-start e h n = record { within = omega arith; long = refl; index = omega arith; small = n; delta = h; same = ap (λ q. run F q 0 whole) e }

  -- a turn makes a step
  pub done-turn : {p : DecorrPass} {l after : List ℤ} {m i : ℕ} (o : Stepped) → Done F start whole p l m i
      → i + 1 < length l
      → o ≡ F p m (slot l i) (slot l (i + 1)) → after ≡ frame_stored l i o.a o.b
      → Done F start whole o.pass after (m + 1) (i + 2)
  done-turn {p} {l} {after} {m} {i} o d h e s =
      let n : length after ≡ length l = ap length s ∙ simp length-set in
      record {
        within = omega arith;
        long = n ∙ d.long;
        index = omega (arith, d.index);
        small = d.small;
        delta = d.delta;
        same = rw (s, add-two i, add-one m, add-one i) (sym (one-turn F p m i l o (rw add-one at h) (rw add-one at e)) ∙ d.same);
      }

  -- less than a frame is left
  pub done_end : {p q : DecorrPass} {l : List ℤ} {m i : ℕ} → Done F start whole p l m i → length l ≤ i + 1
      → q ≡ p
      → ◌≡◌ {A = Run} (record { pass = q; buffer = l }) (run F start 0 whole)
  done_end {p} {q} {l} {m} {i} d h e = rw e (sym (no_turn F p m i l d.within (rw add-one at h)) ∙ d.same)
