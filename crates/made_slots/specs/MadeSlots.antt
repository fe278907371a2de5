-- A pass as 20 slots: what pass making answers and lays into slots, on refusal too. Assumes nothing.
use Rattle.std.specs.Prelude.{ℕ, List, ◌∷◌, ◌++◌, ℤ}
use Rattle.answers.specs.Guard.{or_else}
use Rattle.passes.specs.declared.DecorrPass.{DecorrPass}
use Rattle.passes.specs.Making.{making_refusal, made}
use Rattle.slots.specs.Slots.{slot_refusal}

-- "20 slots a pass": its term, delta and weights, and two histories of eight
abbrev pub pass_slots : ℕ
pass_slots = 20

-- the slots of a pass: term, delta, weight of A, weight of B, history of A (8), history of B (8)
unfoldable pub slots_of : DecorrPass → List ℤ
slots_of p = p.term ∷ p.delta ∷ p.weight_a ∷ p.weight_b ∷ (p.history_a ++ p.history_b)

-- 6 before what pass making refuses
abbrev pub pass_answer : ℤ → List ℤ → List ℤ → List ℤ → ℕ
pass_answer term seedA seedB slots = or_else (slot_refusal pass_slots slots) (making_refusal term seedA seedB)

-- the pass that is made
abbrev pub pass_values : ℤ → ℤ → ℤ → ℤ → List ℤ → List ℤ → List ℤ
pass_values term delta weightA weightB seedA seedB = slots_of (made term delta weightA weightB seedA seedB).pass
