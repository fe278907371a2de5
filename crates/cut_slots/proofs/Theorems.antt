-- Buffers in parts by passes in slots (statements in specs/CutSlots.antt), from the theorems about lists of
-- passes. Assumes nothing.
use mathlib.Core.Path.{◌≡◌, refl, ap, ◌∙◌}
use mathlib.Core.Bool.{true}
use mathlib.Core.List.{List, [], ◌∷◌, append-nil}
use Prim.Native.Nat.{ℕ, suc, ◌*◌, ◌/◌, ◌%◌, ◌≤◌}
use native.Mathlib.Omega.{arith}
use lib.IntN.{ℤ}
use lib.ListN.{length, get_or, replicate}
use Rattle.answers.specs.Limits.{max_elements, max_passes}
use Rattle.passes.specs.Run.{Chain}
use Rattle.passes.specs.declared.DecorrPass.{DecorrPass}
use Rattle.passes.specs.declared.Direction.{Direction}
use Rattle.passes.specs.declared.Direction.TheVariants.{Decorrelation, Analysis}
use Rattle.list_tests.specs.Tests.{all_valid}
use Rattle.list_runs.specs.Chained.{chained}
use Rattle.decorrelation.specs.Lists.{Answer, done, listed}
use Rattle.decorrelation.proofs.Theorems.{listed-accepts, zero-accepts}
use Rattle.cut_buffers.specs.Cut.{EachMayCut, first_part, second_part, cut_into, EachShort}
use Rattle.cut_buffers.proofs.KeptLaws.{chained_terms, same-valid, same_count, each_may_cut}
use Rattle.cut_buffers.proofs.Parts.{chained-cut, short-parts}
use Rattle.made_slots.specs.MadeSlots.{pass_slots}
use Rattle.pass_slots.specs.PassSlots.{passes_in, list_slots, passes_call}
use Rattle.pass_slots.proofs.AcceptedCalls.{in_slots, call-leaves, call-accepts}
use Rattle.cut_slots.specs.CutSlots.{calls_in_two, SlotsCutInTwo, DecorrelateCut, AnalyseCut}
use Rattle.cut_slots.specs.CutSlots.{PartsLeft, calls_in_parts, SlotsCutInMany, DecorrelateInParts, AnalyseInParts}
use Rattle.cut_slots.specs.CutSlots.{LongDecorrelate, LongAnalyse}
use Rattle.cut_slots.proofs.ShapeLaws.{AllShaped, chained-shaped, passes-shaped, slots_length, held-again}

-- ---- slots that hold accepted passes

-- whole passes, of which each is one that slots hold again, valid and at most 16
record Held (slots : List ℤ) (ps : List DecorrPass) : Type 0 where
  whole : length slots % pass_slots ≡ 0
  is : passes_in slots ≡ ps
  shaped : AllShaped ps
  valid : all_valid ps ≡ true
  few : length ps ≤ max_passes

-- slots of passes that a run left
held_slots : (ps : List DecorrPass) → AllShaped ps → all_valid ps ≡ true → length ps ≤ max_passes → Held (list_slots ps) ps
held_slots ps h v few =
    let n = slots_length ps h in
    let count : length (list_slots ps) / pass_slots ≡ length ps = omega (arith, n) in
    record { whole = omega (arith, n); is = rw count (held-again ps h); shaped = h; valid = v; few = few }

-- slots whose call is accepted
held-accepted : (d : Direction) (slots l : List ℤ) → (passes_call (listed d) slots l).refusal ≡ 0 → Held slots (passes_in slots)
held-accepted d slots l z =
    let a = call-accepts (listed d) slots l z in
    let k = zero-accepts d (passes_in slots) l a.accepted in
    let count : length slots / pass_slots * pass_slots ≤ length slots = omega arith in
    record {
      whole = a.whole;
      is = refl;
      shaped = passes-shaped (length slots / pass_slots) slots count;
      valid = k.well_made;
      few = k.few;
    }

module _ (d : Direction) where
  -- what a call leaves
  call-runs : (slots : List ℤ) (ps : List DecorrPass) (l : List ℤ) → Held slots ps → length l ≤ max_elements
      → passes_call (listed d) slots l ≡ in_slots (done (chained d ps l))
  call-runs slots ps l h short =
      let run : listed d (passes_in slots) l ≡ done (chained d ps l) =
      rw h.is (listed-accepts d ps l (record { well_made = h.valid; few = h.few; short = short })) in
      call-leaves (listed d) slots l (record { whole = h.whole; accepted = ap (λ (a : Answer). a.refusal) run }) ∙ ap in_slots run

  -- the slots that it leaves
  held_after : (ps : List DecorrPass) (l : List ℤ) → AllShaped ps → all_valid ps ≡ true → length ps ≤ max_passes
      → Held (list_slots (chained d ps l).passes) (chained d ps l).passes
  held_after ps l h v few =
      let qs = (chained d ps l).passes in
      let terms = chained_terms d ps l in
      held_slots qs (chained-shaped d ps l h) (same-valid qs ps terms ∙ v) (rw (same_count qs ps terms) few)

  -- so many accepted calls, which leave what a run leaves
  abbrev all : ℕ → Chain → PartsLeft
  all calls c = record { refusals = replicate calls 0; passes = list_slots c.passes; buffer = c.buffer }

  -- ---- all parts

  calls_run : (cuts : List ℕ) (slots : List ℤ) (ps : List DecorrPass) (l : List ℤ) → Held slots ps → EachMayCut ps cuts
      → EachShort (cut_into cuts l) → calls_in_parts (listed d) slots (cut_into cuts l) ≡ all (suc (length cuts)) (chained d ps l)
  calls_run [] slots ps l h c s = rw (call-runs slots ps l h s.0, append-nil (chained d ps l).buffer)
  calls_run (n ∷ cuts) slots ps l h c s =
      let part = first_part n l in
      let one = chained d ps part in
      let after = held_after ps part h.shaped h.valid h.few in
      let terms = chained_terms d ps part in
      let rest = calls_run cuts (list_slots one.passes) one.passes (second_part n l) after (each_may_cut one.passes ps cuts terms c.1) s.1 in
      rw (call-runs slots ps part h s.0, rest, chained-cut d ps n l h.valid c.0)

  -- where the whole call is accepted
  cut_in_many : SlotsCutInMany (listed d)
  cut_in_many slots l cuts z c =
      let h = held-accepted d slots l z in
      let a = call-accepts (listed d) slots l z in
      let short = (zero-accepts d (passes_in slots) l a.accepted).short in
      rw (call-runs slots (passes_in slots) l h short) (calls_run cuts slots (passes_in slots) l h c (short-parts cuts l short))

  -- two parts are many
  cut-in_two : SlotsCutInTwo (listed d)
  cut-in_two slots l n z c =
      let two = cut_in_many slots l (n ∷ []) z (c, tt) in
      let apart = calls_in_two (listed d) slots n l in
      let whole = ap (λ (x : PartsLeft). x.buffer) two in
      record {
        first-accepted = ap (λ (x : PartsLeft). get_or x.refusals 0 0) two;
        second-accepted = ap (λ (x : PartsLeft). get_or x.refusals 1 0) two;
        same_samples = rw (append-nil apart.second.buffer) at whole;
        same_slots = ap (λ (x : PartsLeft). x.passes) two;
      }

-- ---- the theorems

-- Q10.1, Q10.2
pub decorrelate_cut : DecorrelateCut
decorrelate_cut = cut-in_two Decorrelation

-- Q10.4
pub analyse_cut : AnalyseCut
analyse_cut = cut-in_two Analysis

-- Q10.5
pub decorrelate_in_parts : DecorrelateInParts
decorrelate_in_parts = cut_in_many Decorrelation

-- Q10.4, Q10.5
pub analyse_in_parts : AnalyseInParts
analyse_in_parts = cut_in_many Analysis

-- Q10.5
pub long_decorrelate : LongDecorrelate
long_decorrelate slots l cuts z c s = calls_run Decorrelation cuts slots (passes_in slots) l (held-accepted Decorrelation slots [] z) c s

-- Q10.4, Q10.5
pub long_analyse : LongAnalyse
long_analyse slots l cuts z c s = calls_run Analysis cuts slots (passes_in slots) l (held-accepted Analysis slots [] z) c s
