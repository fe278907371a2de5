-- The turn of the reading loop, which the loop holds field by field, without the fact that a turn
-- carries; and the first turn.
-- Assumes nothing.
use mathlib.Core.Path.{◌≡◌, refl}
use mathlib.Core.Bool.{Bool, false}
use mathlib.Core.List.{List}
use Prim.Native.Nat.{ℕ, ◌-◌, ◌≤◌}
use native.Mathlib.Omega.{arith}
use lib.IntN.{ℤ}
use lib.ListN.{length}
use Rattle.entropy.specs.declared.AdaptiveMedians.{AdaptiveMedians}
use Rattle.entropy.specs.Medians.{pair_of}
use Rattle.word_state.specs.State.{State, start}
use Rattle.readings.proofs.HeldLaws.{held_start}
use Rattle.reading_turns.specs.declared.turn.Turn.{Turn}
use Rattle.samples.proofs.LoopLaws.{Loop}

-- the fields of a turn, as the loop holds them
abbrev pub Parts : Type 0
Parts = ℕ × (ℕ × (ℕ × (List AdaptiveMedians × (Bool × (Bool × (Bool × Unit {0}))))))

-- and the turn that they make
abbrev pub turn_of : (f : Parts) → f.1.0 ≤ f.0 → Turn
turn_of f h = record {
  bits = f.0;
  left_bits = f.1.0;
  written = f.1.1.0;
  medians = f.1.1.1.0;
  run_break = f.1.1.1.1.0;
  last_zero = f.1.1.1.1.1.0;
  last_one = f.1.1.1.1.1.1.0;
  part = h;
}

-- between two turns they make one
pub record PartsLoop (payload : List ℕ) (out₀ : List ℤ) (s₀ : State) (out : List ℤ) (f : Parts) : Type 0 where
  pub part : f.1.0 ≤ f.0
  pub loop : Loop payload out₀ s₀ out (turn_of f part)

-- the turn before the first word
abbrev pub first : List AdaptiveMedians → Turn
first ms = record {
  bits = 0;
  left_bits = 0;
  written = 0;
  medians = ms;
  run_break = false;
  last_zero = false;
  last_one = false;
  part = omega arith;
}

-- it holds the start
pub loop_start : (payload : List ℕ) (out : List ℤ) (ms : List AdaptiveMedians) → length ms ≡ 2
    → Loop payload out (start (pair_of ms).left (pair_of ms).right) out (first ms)
loop_start payload out ms l =
    let e : length out - 0 ≡ length out = omega arith in
    let s = start (pair_of ms).left (pair_of ms).right in
    record {
      owed = 0;
      words = record {
        state = s;
        held = held_start ms l;
        here = omega arith;
        same = refl;
        is = rw e;
        others = refl;
        left-bits = rw e (omega arith);
        part = omega arith;
      };
      settled = λ h. refl;
    }
