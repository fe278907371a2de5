-- Lists of slots joined (statements in specs/JoinedSlots.antt), from the theorems about lists of
-- passes. Assumes nothing.
use mathlib.Core.Path.{◌≡◌, sym, ap, ap₂, ◌∙◌}
use mathlib.Core.List.{List, ◌++◌}
use Prim.Native.Nat.{◌+◌, ◌*◌, ◌/◌, ◌%◌, ◌≤◌}
use native.Mathlib.Omega.{arith}
use lib.IntN.{ℤ}
use lib.ListN.{length, length-append}
use Rattle.answers.specs.Limits.{max_passes}
use Rattle.passes.specs.declared.DecorrPass.{DecorrPass}
use Rattle.passes.specs.declared.Direction.TheVariants.{Decorrelation, Analysis}
use Rattle.decorrelation.specs.Lists.{Answer, decorrelation, analysis}
use Rattle.decorrelation.proofs.Theorems.{zero-accepts}
use Rattle.joined_lists.specs.Joined.{TwoCalls, decorrelated_apart, analysed_apart, Joinable, Same}
use Rattle.joined_lists.proofs.Together.{decorrelation-joined, analysis-joined}
use Rattle.made_slots.specs.MadeSlots.{pass_slots}
use Rattle.pass_slots.specs.PassSlots.{passes_in, list_slots, PassesLeft, passes_call}
use Rattle.pass_slots.proofs.PassSlotLaws.{passes-length, slots_append}
use Rattle.pass_slots.proofs.AcceptedCalls.{in_slots, AcceptedCall, call-leaves, call-accepts}
use Rattle.joined_slots.specs.JoinedSlots.{SlotCalls, decorrelate_apart, analyse_apart, SameSlots, DecorrelateJoined, AnalyseJoined}
use Rattle.joined_slots.proofs.SlotLaws.{passes_in-joined}

-- ---- what calls leave

refusal_of : {a b : PassesLeft} → a ≡ b → a.refusal ≡ b.refusal
refusal_of e = ap (λ (x : PassesLeft). x.refusal) e

slots_of_lem : {a b : PassesLeft} → a ≡ b → a.passes ≡ b.passes
slots_of_lem e = ap (λ (x : PassesLeft). x.passes) e

buffer_of : {a b : PassesLeft} → a ≡ b → a.buffer ≡ b.buffer
buffer_of e = ap (λ (x : PassesLeft). x.buffer) e

module _ (entry : List DecorrPass → List ℤ → Answer) (xs ys l : List ℤ)
    (whole-xs : length xs % pass_slots ≡ 0) (whole-ys : length ys % pass_slots ≡ 0) where
  -- the joined call over slots leaves what the entry leaves by both lists of passes
  joined-leaves : (entry (passes_in xs ++ passes_in ys) l).refusal ≡ 0 → passes_call entry (xs ++ ys) l ≡ in_slots (entry (passes_in xs ++ passes_in ys) l)
  joined-leaves z =
      let same : passes_in (xs ++ ys) ≡ passes_in xs ++ passes_in ys = passes_in-joined xs ys whole-xs whole-ys in
      let call : AcceptedCall entry (xs ++ ys) l = record { whole = omega (arith, length-append xs ys); accepted = rw same z } in
      call-leaves entry (xs ++ ys) l call ∙ ap (λ (ps : List DecorrPass). in_slots (entry ps l)) same

  -- what is the same of passes is the same of their slots
  same-in_slots : (apart : SlotCalls) (calls : TwoCalls) → apart.first ≡ in_slots calls.first → apart.second ≡ in_slots calls.second → apart.left ≡ calls.left
      → Same calls (entry (passes_in xs ++ passes_in ys) l) → SameSlots apart (passes_call entry (xs ++ ys) l)
  same-in_slots apart calls e f left same =
      let g = joined-leaves same.joined-accepted in
      record {
        joined-accepted = refusal_of g;
        same-buffer = buffer_of g ∙ same.same-buffer ∙ sym left;
        same_slots = slots_of_lem g ∙ ap list_slots same.same_states ∙ slots_append calls.first.passes calls.second.passes ∙ sym (ap₂ ◌++◌ (slots_of_lem e) (slots_of_lem f));
      }

-- at most 320 slots hold at most 16 passes
few-passes : (xs ys : List ℤ) → length xs + length ys ≤ max_passes * pass_slots → length (passes_in xs) +
    length (passes_in ys) ≤ max_passes
few-passes xs ys h = rw (passes-length (length xs / pass_slots) xs, passes-length (length ys / pass_slots) ys)
    (omega arith)

-- ---- the theorems

-- Q4.1, Q4.2
pub decorrelate_joined : DecorrelateJoined
decorrelate_joined first second buffer j =
    let ps = passes_in first in
    let qs = passes_in second in
    let apart = decorrelate_apart first second buffer in
    let a = call-accepts decorrelation first buffer j.first-accepted in
    let one : apart.first ≡ in_slots (decorrelation ps buffer) = call-leaves decorrelation first buffer a in
    let between = (decorrelation ps buffer).buffer in
    let b = call-accepts decorrelation second between (rw (buffer_of one) at j.second-accepted) in
    let two : apart.second ≡ in_slots (decorrelation qs between) = rw (buffer_of one) (call-leaves decorrelation second between b) in
    let h = zero-accepts Decorrelation ps buffer a.accepted in
    let k = zero-accepts Decorrelation qs between b.accepted in
    let lists : Joinable ps qs buffer =
    record { first-valid = h.well_made; second-valid = k.well_made; at_most_16 = few-passes first second j.at_most_16; at_most_262144 = h.short } in
    same-in_slots decorrelation first second buffer a.whole b.whole apart (decorrelated_apart ps qs buffer) one two (buffer_of two) (decorrelation-joined ps qs buffer lists)

-- Q4.3
pub analyse_joined : AnalyseJoined
analyse_joined first second buffer j =
    let ps = passes_in first in
    let qs = passes_in second in
    let apart = analyse_apart first second buffer in
    let b = call-accepts analysis second buffer j.second-accepted in
    let two : apart.second ≡ in_slots (analysis qs buffer) = call-leaves analysis second buffer b in
    let between = (analysis qs buffer).buffer in
    let a = call-accepts analysis first between (rw (buffer_of two) at j.first-accepted) in
    let one : apart.first ≡ in_slots (analysis ps between) = rw (buffer_of two) (call-leaves analysis first between a) in
    let h = zero-accepts Analysis ps between a.accepted in
    let k = zero-accepts Analysis qs buffer b.accepted in
    let lists : Joinable ps qs buffer =
    record { first-valid = h.well_made; second-valid = k.well_made; at_most_16 = few-passes first second j.at_most_16; at_most_262144 = k.short } in
    same-in_slots analysis first second buffer a.whole b.whole apart (analysed_apart ps qs buffer) one two (buffer_of one) (analysis-joined ps qs buffer lists)
