-- The three answers of a call that fills a lent list: too few slots, a refusal, and what was told.
-- Assumes nothing.
use mathlib.Core.Path.{◌≡◌}
use mathlib.Core.List.{List}
use Prim.Native.Nat.{ℕ, ◌≤◌, ◌<◌}
use borrow.Author.Tests.{lt-ltb, le-ltb}
use lib.ListN.{length}
use Rattle.answers.specs.declared.Refusal.{Refusal}
use Rattle.answers.specs.Numbers.{number_of}
use Rattle.answers.proofs.GuardLaws.{guard_refused}
use Rattle.answers.proofs.NumberLaws.{number-positive}
use Rattle.overlay.specs.Overlay.{overlay}
use Rattle.slots.specs.Slots.{leave_values, fill_call}

-- the slots of a refused call keep their values
pub slots_kept : {A : Type 0} (x : Refusal) (values slots : List A) → leave_values (number_of x) values slots ≡ slots
slots_kept x values slots = guard_refused (number_of x) (λ _. slots) (overlay slots 0 values) (number-positive x)

module _ {A : Type 0} (n : ℕ) (before after : List A) (answer values : List ℕ) where
  pub fill-short : (number : ℕ) → length answer < n → record { refusal = 6; list = before; answer = answer } ≡ fill_call n before answer number after values
  fill-short number h = rw (lt-ltb (length answer) n h)

  pub fill-refused : (x : Refusal) → n ≤ length answer → record { refusal = number_of x; list = after; answer = answer } ≡ fill_call n before answer (number_of x) after values
  fill-refused x h = rw (le-ltb (length answer) n h, slots_kept x values answer)

  pub fill-laid : (laid : List ℕ) → n ≤ length answer → laid ≡ overlay answer 0 values → record { refusal = 0; list = after; answer = laid } ≡ fill_call n before answer 0 after values
  fill-laid laid h l = rw (le-ltb (length answer) n h, l)
