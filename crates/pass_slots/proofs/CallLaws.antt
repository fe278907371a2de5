-- The answers of decorrelation and analysis over slots, each way out by a law.
-- Assumes nothing.
use mathlib.Core.Path.{◌≡◌, refl, sym, ap, ◌∙◌}
use mathlib.Core.Bool.{true, false}
use mathlib.Core.List.{List, ◌++◌}
use Prim.Native.Nat.{ℕ, zero, suc, ◌/◌, ◌%◌, ◌≤◌, ◌<◌}
use native.Mathlib.Omega.{arith}
use lib.Dec.{eqb}
use lib.IntN.{ℤ}
use lib.ListN.{length, take, drop}
use lib.Seq.{take_at}
use Rattle.answers.specs.Guard.{unless_refused}
use Rattle.answers.specs.Limits.{max_passes}
use Rattle.answers.specs.declared.Refusal.{Refusal}
use Rattle.answers.specs.Numbers.{number_of}
use Rattle.answers.proofs.NumberLaws.{number-positive}
use Rattle.answers.proofs.GuardLaws.{guard_refused}
use Rattle.passes.specs.Run.{Chain}
use Rattle.passes.specs.declared.DecorrPass.{DecorrPass}
use Rattle.passes.specs.declared.Direction.{Direction}
use Rattle.list_tests.specs.Tests.{all_valid, list_number}
use Rattle.list_runs.specs.Chained.{chained}
use Rattle.decorrelation.specs.Lists.{number_by, Answer, done, refuse_list, listed, array_answer}
use Rattle.decorrelation.proofs.Answers.{number_by_lem, many-number, many-positive}
use Rattle.decorrelation.proofs.Theorems.{listed-count, extended, array_as_list}
use Rattle.made_slots.specs.MadeSlots.{pass_slots}
use Rattle.pass_slots.specs.PassSlots.{passes_of, list_slots, PassesLeft, leave_passes, passes_call}
use Rattle.pass_slots.proofs.PassSlotLaws.{passes-length}

-- ---- the calls

-- a refusal leaves the slots
refused-left : (k : ℕ) (c : Chain) (slots : List ℤ) (qs : List DecorrPass) (l : List ℤ) → 0 < k
    → ◌≡◌ {A = PassesLeft} (record { refusal = k; passes = slots; buffer = l }) (leave_passes slots (unless_refused k (refuse_list qs l) (done c)))
refused-left zero c slots qs l h = absurd (omega arith)
refused-left (suc k) c slots qs l h = refl

module _ (dir : Direction) (slots buffer : List ℤ) where
  -- a length that is no multiple of 20
  pub call-short : eqb (length slots % pass_slots) 0 ≡ false → record
      { refusal = 6; passes = slots; buffer = buffer } ≡ passes_call (listed dir) slots buffer
  unfolding passes_call
  call-short h = rw h

  module _ (n : ℕ) (is : n ≡ length slots / pass_slots) (whole : eqb (length slots % pass_slots) 0 ≡ true) where
    -- what is told of the passes in the slots
    by-list : passes_call (listed dir) slots buffer ≡ leave_passes slots (listed dir (passes_of n slots) buffer)
    unfolding passes_call
    by-list = rw (whole, ← is)

    -- more than 16 passes
    pub call-many : (r : ℕ) → r ≡ list_number true n (length buffer) → max_passes < n
        → record { refusal = r; passes = slots; buffer = buffer } ≡ passes_call (listed dir) slots buffer
    unfolding listed
    call-many r e h =
        let qs = passes_of n slots in
        let k : r ≡ number_by dir (all_valid qs) (length qs) (length buffer) =
        e ∙ many-number (all_valid qs) n (length buffer) h ∙ rw (passes-length n slots) (sym (number_by_lem dir (all_valid qs) n (length buffer))) in
        rw (by-list, ← k) (refused-left r (chained dir qs buffer) slots qs buffer (rw e (many-positive n (length buffer) h)))

    module _ (ps zs : List DecorrPass) (k : ℕ) (b : List ℤ) (few : n ≤ length ps) (held : take n ps ≡ passes_of n slots)
        (told : record { refusal = k; passes = zs; buffer = b } ≡ array_answer dir ps n buffer) where
      -- what is told of the array
      by_array : record { refusal = k; passes = zs; buffer = b } ≡ extended (drop n ps) (listed dir (passes_of n slots) buffer)
      by_array = told ∙ array_as_list dir ps n buffer few ∙ ap (λ qs. extended (drop n ps) (listed dir qs buffer)) held

      number_is : k ≡ (listed dir (passes_of n slots) buffer).refusal
      number_is = ap (λ (a : Answer). a.refusal) by_array

      buffer-is : b ≡ (listed dir (passes_of n slots) buffer).buffer
      buffer-is = ap (λ (a : Answer). a.buffer) by_array

      -- a refused list
      pub call-refused : (x : Refusal) → k ≡ number_of x → record { refusal = k; passes = slots; buffer = b } ≡ passes_call (listed dir) slots buffer
      call-refused x f =
          let h : 0 < (listed dir (passes_of n slots) buffer).refusal = rw (← number_is, f) (number-positive x) in
          rw (by-list, number_is, buffer-is, guard_refused _ (λ n. slots) (list_slots (listed dir (passes_of n slots) buffer).passes) h)

      -- an accepted one
      pub call-accepted : (after : List ℤ) → k ≡ 0 → after ≡ list_slots (take n zs) → record { refusal = 0; passes = after; buffer = b } ≡ passes_call (listed dir) slots buffer
      call-accepted after f g =
          let z : 0 ≡ (listed dir (passes_of n slots) buffer).refusal = rw f at number_is in
          let m : length (listed dir (passes_of n slots) buffer).passes ≡ n = listed-count dir (passes_of n slots) buffer ∙ passes-length n slots in
          let p : zs ≡ (listed dir (passes_of n slots) buffer).passes ++ drop n ps = ap (λ (a : Answer). a.passes) by_array in
          rw (by-list, ← z, buffer-is, g, p, take_at (listed dir (passes_of n slots) buffer).passes (drop n ps) n m)
