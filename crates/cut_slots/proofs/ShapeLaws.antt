-- Passes and the slots that hold them: what slots hold, a run keeps in the shape in which slots hold it
-- again. Assumes nothing.
use mathlib.Core.Path.{◌≡◌, refl}
use mathlib.Core.Bool.{Bool, true, false, cond}
use mathlib.Core.List.{List, [], ◌∷◌}
use Prim.Native.Nat.{ℕ, zero, suc, ◌+◌, ◌*◌, ◌≤◌}
use native.Mathlib.Omega.{arith}
use borrow.Author.Tests.{leb-true}
use lib.Dec.{leb}
use lib.IntN.{ℤ, pos, negsuc}
use lib.ListN.{length, get_or, take, drop, length-append, length-drop, length-set}
use lib.Seq.{length-take-le, drop_at}
use mir.Syntax.{w8}
use mir.Val.{SFits}
use Rattle.passes.specs.Terms.{term_of}
use Rattle.passes.specs.Step.{rule_of, step, unstep, advanced}
use Rattle.passes.specs.Run.{turn, passed, decorrelated, analysed}
use Rattle.passes.specs.declared.DecorrPass.{DecorrPass}
use Rattle.passes.specs.declared.Direction.{Direction}
use Rattle.passes.specs.declared.Direction.TheVariants.{Decorrelation, Analysis}
use Rattle.passes.specs.declared.Term.{Term}
use Rattle.passes.specs.declared.Term.TheVariants.{Lag, Seventeen, Eighteen, MinusOne, MinusTwo, MinusThree, Invalid}
use Rattle.passes.proofs.Bounds.{run_keeps, passed-term}
use Rattle.list_runs.specs.Chained.{chained}
use Rattle.made_slots.specs.MadeSlots.{pass_slots, slots_of}
use Rattle.pass_slots.specs.PassSlots.{slot_term, pass_of, passes_of, list_slots}
use Rattle.pass_slots.proofs.PassSlotLaws.{pass-again, pass-first}

-- ---- histories of eight

-- both histories of a pass have eight slots
pub record Eights (p : DecorrPass) : Type 0 where
  pub in_a : length p.history_a ≡ 8
  pub in_b : length p.history_b ≡ 8

-- the histories after a frame have as many
rule_eights : (t : Term) (p : DecorrPass) (m : ℕ) (a b : ℤ) → Eights p
    → let r = rule_of t p m in (length (r.history_a a b) ≡ 8) × (length (r.history_b a b) ≡ 8)
rule_eights (Lag t) p m a b h = (simp length-set h.in_a, simp length-set h.in_b)
rule_eights Seventeen p m a b h = (simp length-set h.in_a, simp length-set h.in_b)
rule_eights Eighteen p m a b h = (simp length-set h.in_a, simp length-set h.in_b)
rule_eights MinusOne p m a b h = (simp length-set h.in_a, h.in_b)
rule_eights MinusTwo p m a b h = (h.in_a, simp length-set h.in_b)
rule_eights MinusThree p m a b h = (simp length-set h.in_a, simp length-set h.in_b)
rule_eights Invalid p m a b h = (simp length-set h.in_a, simp length-set h.in_b)

-- a step keeps them so
turn-eights : (d : Direction) (t : Term) (p : DecorrPass) (m : ℕ) (x y : ℤ) → Eights p → Eights (turn d t p m x y).pass
unfolding step unstep advanced
turn-eights Decorrelation t p m x y h =
    let s = step t p m x y in
    let e = rule_eights t p m s.a s.b h in
    record { in_a = e.0; in_b = e.1 }
turn-eights Analysis t p m x y h = let e = rule_eights t p m x y h in record { in_a = e.0; in_b = e.1 }

passed-eights : (d : Direction) (p : DecorrPass) (l : List ℤ) → Eights p → Eights (passed d p l).pass
unfolding passed
passed-eights d p l h = run_keeps (turn d (term_of p.term)) Eights (turn-eights d (term_of p.term)) p 0 l h

-- ---- the shape that slots hold

-- a pass that slots can hold: a term of 8 bits, and histories of eight
pub record Shaped (p : DecorrPass) : Type 0 where
  pub term_fits : SFits w8 p.term
  pub eights : Eights p

abbrev pub AllShaped : List DecorrPass → Type 0
AllShaped [] = Unit {0}
AllShaped (p ∷ ps) = Shaped p × AllShaped ps

-- through a run
passed-shaped : (d : Direction) (p : DecorrPass) (l : List ℤ) → Shaped p → Shaped (passed d p l).pass
passed-shaped d p l h = record { term_fits = rw (passed-term d p l) h.term_fits; eights = passed-eights d p l h.eights }

decorrelated-shaped : (ps : List DecorrPass) (l : List ℤ) → AllShaped ps → AllShaped (decorrelated ps l).passes
decorrelated-shaped [] l h = tt
decorrelated-shaped (p ∷ ps) l h =
    (passed-shaped Decorrelation p l h.0, decorrelated-shaped ps (passed Decorrelation p l).buffer h.1)

analysed-shaped : (ps : List DecorrPass) (l : List ℤ) → AllShaped ps → AllShaped (analysed ps l).passes
analysed-shaped [] l h = tt
analysed-shaped (p ∷ ps) l h = (passed-shaped Analysis p (analysed ps l).buffer h.0, analysed-shaped ps l h.1)

pub chained-shaped : (d : Direction) (ps : List DecorrPass) (l : List ℤ) → AllShaped ps → AllShaped (chained d ps l).passes
chained-shaped Decorrelation ps l h = decorrelated-shaped ps l h
chained-shaped Analysis ps l h = analysed-shaped ps l h

-- ---- out of slots

small : (b : Bool) (n : ℕ) → leb n 127 ≡ b → SFits w8 (cond b (pos n) (pos 0))
small true n e = record { sfits = omega (arith, leb-true n 127 e) }
small false n e = record { sfits = omega arith }

small-below : (b : Bool) (n : ℕ) → leb n 127 ≡ b → SFits w8 (cond b (negsuc n) (pos 0))
small-below true n e = record { sfits = omega (arith, leb-true n 127 e) }
small-below false n e = record { sfits = omega arith }

slot_term-fits : (z : ℤ) → SFits w8 (slot_term z)
slot_term-fits (pos n) = small (leb n 127) n refl
slot_term-fits (negsuc n) = small-below (leb n 127) n refl

part_of-eight : (slots : List ℤ) (at : ℕ) → at + 8 ≤ length slots → length (take 8 (drop at slots)) ≡ 8
part_of-eight slots at h = length-take-le 8 (drop at slots) (rw (length-drop at slots) (omega arith))

pass-shaped : (slots : List ℤ) → pass_slots ≤ length slots → Shaped (pass_of slots)
unfolding pass_of
pass-shaped slots h =
    record {
      term_fits = slot_term-fits (get_or slots 0 (pos 0));
      eights = record { in_a = part_of-eight slots 4 (omega arith); in_b = part_of-eight slots 12 (omega arith) };
    }

pub passes-shaped : (n : ℕ) (slots : List ℤ) → n * pass_slots ≤ length slots → AllShaped (passes_of n slots)
passes-shaped zero slots h = tt
passes-shaped (suc n) slots h =
    (pass-shaped slots (omega arith), passes-shaped n (drop pass_slots slots) (rw (length-drop pass_slots slots) (omega arith)))

-- ---- into slots, and out again

slots_of-pass : (p : DecorrPass) → Shaped p → length (slots_of p) ≡ pass_slots
unfolding slots_of
slots_of-pass p h =
    let n = length-append p.history_a p.history_b in
    omega (arith, n, h.eights.in_a, h.eights.in_b)

pub slots_length : (ps : List DecorrPass) → AllShaped ps → length (list_slots ps) ≡ length ps * pass_slots
slots_length [] h = refl
slots_length (p ∷ ps) h =
    rw (length-append (slots_of p) (list_slots ps), slots_of-pass p h.0, slots_length ps h.1) (omega arith)

pub held-again : (ps : List DecorrPass) → AllShaped ps → passes_of (length ps) (list_slots ps) ≡ ps
held-again [] h = refl
held-again (p ∷ ps) h =
    let s = h.0 in
    let n = slots_of-pass p s in
    rw (
      pass-first (slots_of p) (list_slots ps) (omega arith),
      pass-again p s.term_fits s.eights.in_a s.eights.in_b,
      drop_at (slots_of p) (list_slots ps) pass_slots n,
      held-again ps h.1,
    )
