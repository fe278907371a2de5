-- Slots that are refused over a buffer are refused over its parts (statements in specs/CutSlots.antt).
-- Assumes nothing.
use mathlib.Core.Path.{◌≡◌, refl}
use mathlib.Core.Bool.{Bool, true, false}
use mathlib.Core.List.{List}
use Prim.Native.Nat.{◌%◌, ◌≤◌, ◌<◌}
use native.Mathlib.Omega.{arith}
use lib.Dec.{eqb}
use lib.IntN.{ℤ}
use lib.ListN.{length, length-take, length-drop}
use Rattle.answers.specs.Limits.{max_elements}
use Rattle.answers.proofs.GuardLaws.{guard_refused}
use Rattle.passes.specs.declared.Direction.{Direction}
use Rattle.passes.specs.declared.Direction.TheVariants.{Decorrelation, Analysis}
use Rattle.decorrelation.specs.Lists.{listed}
use Rattle.cut_buffers.specs.Cut.{first_part, second_part}
use Rattle.cut_buffers.proofs.Refused.{refused_too}
use Rattle.made_slots.specs.MadeSlots.{pass_slots}
use Rattle.pass_slots.specs.PassSlots.{passes_in, list_slots, passes_call}
use Rattle.cut_slots.specs.CutSlots.{SlotsRefusedInTwo, DecorrelateRefused, AnalyseRefused}

module _ (d : Direction) (slots l : List ℤ) (short : length l ≤ max_elements) (refused : 0 < (passes_call (listed d) slots l).refusal) where
  -- by whether the slots are whole passes
  refused-by : (b : Bool) → eqb (length slots % pass_slots) 0 ≡ b → (r : List ℤ) → length r ≤ max_elements
      → passes_call (listed d) slots r ≡ record { refusal = (passes_call (listed d) slots l).refusal; passes = slots; buffer = r }
  unfolding passes_call
  refused-by false e r k = rw e
  refused-by true e r k =
      let ps = passes_in slots in
      let n = (listed d ps l).refusal in
      let p : 0 < n = rw e at refused in
      rw (e, refused_too d ps l r short k p, guard_refused n (λ m. slots) (list_slots ps) p)

  -- what is refused over one buffer is refused over another
  refused_over : (r : List ℤ) → length r ≤ max_elements → passes_call (listed d) slots r ≡ record { refusal = (passes_call (listed d) slots l).refusal; passes = slots; buffer = r }
  refused_over r k = refused-by (eqb (length slots % pass_slots) 0) refl r k

refused-in_two : (d : Direction) → SlotsRefusedInTwo (listed d)
refused-in_two d slots l n short p =
    let first = refused_over d slots l short p (first_part n l) (simp length-take (omega arith)) in
    let second = refused_over d slots l short p (second_part n l) (simp length-drop (omega arith)) in
    record { first-refused = first; second-refused = cc }

-- Q10.1
pub decorrelate_refused : DecorrelateRefused
decorrelate_refused = refused-in_two Decorrelation

-- Q10.4
pub analyse_refused : AnalyseRefused
analyse_refused = refused-in_two Analysis
