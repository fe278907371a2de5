-- What a call answers and leaves, by whether the list has slots enough.
-- Assumes nothing.
use mathlib.Core.Path.{◌≡◌, refl}
use mathlib.Core.List.{List}
use Prim.Native.Nat.{ℕ, ◌≤◌, ◌<◌}
use native.Mathlib.Omega.{arith}
use lib.ListN.{length}
use lib.IntN.{ℤ}
use mir.Syntax.{w8, w32}
use mir.Val.{SFits}
use borrow.Author.Tests.{lt-ltb, le-ltb}
use Rattle.overlay.specs.Overlay.{overlay}
use Rattle.slots.specs.Slots.{slot_refusal, leave_values}

-- a number of 8 bits is one of 32
pub wider : {z : ℤ} → SFits w8 z → SFits w32 z
wider h = record { sfits = omega (arith, h.sfits) }

module _ {A : Type 0} where
  -- what a call answers, and leaves in a list of n slots
  abbrev pub Answered : ℕ → List A → List A → ℕ → List A → Type 0
  Answered n values slots r after = (r ≡ slot_refusal n slots) × (after ≡ leave_values r values slots)

  -- too few slots
  pub short : (n : ℕ) (values slots : List A) (r : ℕ) → r ≡ 6 → length slots < n → Answered n values slots r slots
  short n values slots r e h = rw (lt-ltb (length slots) n h, e) (refl, refl)

  -- enough of them: what was laid are the values
  pub enough : (n : ℕ) (values laying slots after : List A) → after ≡ overlay slots 0 laying → laying ≡ values → n ≤ length slots
      → Answered n values slots 0 after
  enough n values laying slots after e f h = rw (le-ltb (length slots) n h, e, f) (refl, refl)
