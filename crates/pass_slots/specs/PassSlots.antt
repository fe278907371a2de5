-- A list of passes as 20 slots each: what decorrelation and analysis answer and leave in the lent
-- lists, on refusal too. Assumes nothing.
use Rattle.std.specs.Prelude.{ℕ, zero, suc, ◌/◌, ◌%◌, cond, List, [], ◌∷◌, ◌++◌, eqb, leb, ℤ, pos, negsuc, length, get_or, take, drop}
use Rattle.answers.specs.Guard.{unless_refused}
use Rattle.passes.specs.declared.DecorrPass.{DecorrPass}
use Rattle.decorrelation.specs.Lists.{Answer}
use Rattle.made_slots.specs.MadeSlots.{pass_slots, slots_of}

-- the term in a slot: a number outside 8 bits is read as 0, which is no valid term either
abbrev pub slot_term : ℤ → ℤ
slot_term (pos n) = cond (leb n 127) (pos n) (pos 0)
slot_term (negsuc n) = cond (leb n 127) (negsuc n) (pos 0)

-- the pass that the first 20 slots hold: term, delta, weight of A, weight of B, history of A (8),
-- history of B (8)
unfoldable pub pass_of : List ℤ → DecorrPass
pass_of slots =
    record {
      term = slot_term (get_or slots 0 (pos 0));
      delta = get_or slots 1 (pos 0);
      weight_a = get_or slots 2 (pos 0);
      weight_b = get_or slots 3 (pos 0);
      history_a = take 8 (drop 4 slots);
      history_b = take 8 (drop 12 slots);
    }

-- n passes, one after the other
abbrev pub passes_of : ℕ → List ℤ → List DecorrPass
passes_of zero slots = []
passes_of (suc n) slots = pass_of slots ∷ passes_of n (drop pass_slots slots)

-- the passes that slots hold
abbrev pub passes_in : List ℤ → List DecorrPass
passes_in slots = passes_of (length slots / pass_slots) slots

-- the slots of a list of passes
abbrev pub list_slots : List DecorrPass → List ℤ
list_slots [] = []
list_slots (p ∷ ps) = slots_of p ++ list_slots ps

-- ---- decorrelation and analysis

-- the number that each answers, and what its two lists then hold
pub record PassesLeft : Type 0 where
  pub refusal : ℕ
  pub passes : List ℤ
  pub buffer : List ℤ

-- what an entry leaves, its passes as slots: on refusal the slots that there were
abbrev pub leave_passes : List ℤ → Answer → PassesLeft
leave_passes slots a =
    record {
      refusal = a.refusal;
      passes = unless_refused a.refusal (λ n. slots) (list_slots a.passes);
      buffer = a.buffer;
    }

-- an entry over the passes of 20 slots each; other lengths are refused with 6, and both lists are
-- as they were
unfoldable pub passes_call : (List DecorrPass → List ℤ → Answer) → List ℤ → List ℤ → PassesLeft
passes_call entry slots buffer =
    cond (eqb (length slots % pass_slots) 0)
    (leave_passes slots (entry (passes_in slots) buffer))
    (record { refusal = 6; passes = slots; buffer = buffer })
