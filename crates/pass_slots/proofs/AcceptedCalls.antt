-- What an accepted call over slots tells, for either entry. Assumes nothing.
use mathlib.Core.Path.{◌≡◌, refl}
use mathlib.Core.Bool.{Bool, true, false}
use mathlib.Core.List.{List}
use Prim.Native.Nat.{ℕ, ◌%◌}
use native.Mathlib.Omega.{arith}
use lib.Dec.{eqb}
use borrow.Author.Tests.{eqb-true, eq-eqb}
use lib.IntN.{ℤ}
use lib.ListN.{length}
use Rattle.passes.specs.declared.DecorrPass.{DecorrPass}
use Rattle.decorrelation.specs.Lists.{Answer}
use Rattle.made_slots.specs.MadeSlots.{pass_slots}
use Rattle.pass_slots.specs.PassSlots.{passes_in, list_slots, PassesLeft, passes_call}

-- what an accepted entry leaves, its passes as slots
abbrev pub in_slots : Answer → PassesLeft
in_slots a = record { refusal = 0; passes = list_slots a.passes; buffer = a.buffer }

module _ (entry : List DecorrPass → List ℤ → Answer) (slots buffer : List ℤ) where
  -- what an accepted call tells: its slots are whole passes, and the entry accepts these
  pub record AcceptedCall : Type 0 where
    pub whole : length slots % pass_slots ≡ 0
    pub accepted : (entry (passes_in slots) buffer).refusal ≡ 0

  -- whole passes that the entry accepts: the call leaves what the entry leaves
  pub call-leaves : AcceptedCall → passes_call entry slots buffer ≡ in_slots (entry (passes_in slots) buffer)
  unfolding passes_call
  call-leaves a = rw (eq-eqb (length slots % pass_slots) 0 a.whole, a.accepted)

  accepted_by_lem : (b : Bool) → eqb (length slots % pass_slots) 0 ≡ b → (passes_call entry slots buffer).refusal ≡
      0 → AcceptedCall
  unfolding passes_call
  accepted_by_lem true e z = record { whole = eqb-true (length slots % pass_slots) 0 e; accepted = rw e at z }
  accepted_by_lem false e z = absurd (let six : ◌≡◌ {A = ℕ} 6 0 = rw e at z in omega arith)

  -- a call that answers 0 is such a call
  pub call-accepts : (passes_call entry slots buffer).refusal ≡ 0 → AcceptedCall
  call-accepts z = accepted_by_lem (eqb (length slots % pass_slots) 0) refl z
