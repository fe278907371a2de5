-- The three answers of a call that can refuse its input too: too few slots, the input's refusal, and
-- the values.
-- Assumes nothing.
use mathlib.Core.Path.{◌≡◌, refl, sym, ◌∙◌}
use mathlib.Core.List.{List}
use Prim.Native.Nat.{ℕ, ◌≤◌, ◌<◌}
use lib.IntN.{ℤ}
use lib.ListN.{length}
use borrow.Author.Tests.{lt-ltb, le-ltb}
use Rattle.answers.specs.declared.Refusal.{Refusal}
use Rattle.answers.specs.Guard.{or_else}
use Rattle.answers.specs.Numbers.{number_of}
use Rattle.overlay.specs.Overlay.{overlay}
use Rattle.slots.specs.Slots.{slot_refusal, leave_values}
use Rattle.slots.proofs.FillLaws.{slots_kept}

module _ (n number : ℕ) (values slots : List ℤ) where
  -- what a call with n slots answers, and leaves in the list; its input is refused with a number
  abbrev pub Called : ℕ → List ℤ → Type 0
  Called r after = (r ≡ or_else (slot_refusal n slots) number) × (after ≡ leave_values r values slots)

  -- too few slots
  pub call-short : length slots < n → Called 6 slots
  call-short h = rw (lt-ltb (length slots) n h) (refl, refl)

  -- an input that is refused
  pub call-refused : (x : Refusal) → number_of x ≡ number → n ≤ length slots → Called (number_of x) slots
  call-refused x g h = rw (le-ltb (length slots) n h) (g, sym (slots_kept x values slots))

  -- an accepted one
  pub call-laid : (after : List ℤ) → n ≤ length slots → 0 ≡ number → after ≡ overlay slots 0 values → Called 0 after
  call-laid after h g e = rw (le-ltb (length slots) n h, ← g) (refl, e)
