-- From the outcome of a list and what its run left to the answer of an entry. Assumes nothing.
use mathlib.Core.Path.{◌≡◌, refl, sym, ap, ◌∙◌}
use mathlib.Core.Bool.{Bool, true, false, cond}
use mathlib.Core.List.{List}
use Prim.Native.Nat.{ℕ, zero, suc, ◌<◌, ◌≤◌}
use native.Mathlib.Omega.{arith}
use borrow.Author.Tests.{lt-ltb, ltb-false}
use lib.Dec.{ltb}
use lib.IntN.{ℤ}
use lib.ListN.{length, take, drop}
use Rattle.answers.specs.Guard.{unless_refused}
use Rattle.answers.specs.Limits.{max_elements, max_passes}
use Rattle.answers.specs.Numbers.{number_of, outcome_number}
use Rattle.answers.specs.declared.Refusal.{Refusal}
use Rattle.std.specs.Prelude.{Result, Ok, Err}
use Rattle.answers.proofs.NumberLaws.{number-positive}
use Rattle.answers.proofs.GuardLaws.{guard_refused}
use Rattle.passes.specs.Run.{Chain}
use Rattle.passes.specs.declared.DecorrPass.{DecorrPass}
use Rattle.passes.specs.declared.Direction.{Direction}
use Rattle.passes.specs.declared.Direction.TheVariants.{Decorrelation, Analysis}
use Rattle.list_tests.specs.Tests.{all_valid, list_number}
use Rattle.list_runs.specs.Chained.{chained}
use Rattle.decorrelation.specs.Lists.{number_by, done, refuse_list, listed, followed, array_answer}

-- both directions refuse the same lists
pub number_by_lem : (dir : Direction) (v : Bool) (n m : ℕ) → number_by dir v n m ≡ list_number v n m
number_by_lem Decorrelation v n m = refl
number_by_lem Analysis v n m = refl

-- the number that an answer tells
pub refusal-told : (n : ℕ) (c : Chain) (ps : List DecorrPass) (l : List ℤ) → (unless_refused n (refuse_list ps l) (done c)).refusal ≡ n
refusal-told zero c ps l = refl
refusal-told (suc n) c ps l = refl

-- an answer that refuses tells what it was given
told-kept : (r : Result Unit Refusal) (q : Refusal) (n : ℕ) (ps : List DecorrPass) (l : List ℤ) (c : Chain) → outcome_number r ≡ n → r ≡ Err q
    → record { refusal = number_of q; passes = ps; buffer = l } ≡ unless_refused n (refuse_list ps l) (done c)
told-kept r q n ps l c e f = rw (← e, f) (sym (guard_refused (number_of q) (refuse_list ps l) (done c) (number-positive q)))

-- one that accepts tells what the run left
told-done : (r : Result Unit Refusal) (n : ℕ) (ps : List DecorrPass) (l : List ℤ) (c : Chain) {zs : List DecorrPass} {cs : List ℤ} → outcome_number r ≡ n → r ≡ Ok tt
    → record { passes = zs; buffer = cs } ≡ c → record { refusal = 0; passes = zs; buffer = cs } ≡ unless_refused n (refuse_list ps l) (done c)
told-done r n ps l c e f g = rw (← e, f) (ap done g)

module _ (dir : Direction) (ps : List DecorrPass) (l : List ℤ) (r : Result Unit Refusal) (e : outcome_number r ≡ list_number (all_valid ps) (length ps) (length l)) where
  by_direction : outcome_number r ≡ number_by dir (all_valid ps) (length ps) (length l)
  by_direction = e ∙ sym (number_by_lem dir (all_valid ps) (length ps) (length l))

  -- a list that is refused
  pub list-refused : (q : Refusal) → r ≡ Err q → record { refusal = number_of q; passes = ps; buffer = l } ≡ listed dir ps l
  unfolding listed
  list-refused q f = told-kept r q _ ps l (chained dir ps l) by_direction f

  -- a list that is run
  pub list-accepted : {zs : List DecorrPass} {cs : List ℤ} → r ≡ Ok tt → record { passes = zs; buffer = cs } ≡ chained dir ps l
      → record { refusal = 0; passes = zs; buffer = cs } ≡ listed dir ps l
  unfolding listed
  list-accepted f g = told-done r _ ps l (chained dir ps l) by_direction f g

-- ---- the first n passes of an array

-- more passes than a list may have are refused, whatever their terms
pub many-number : (v : Bool) (n m : ℕ) → max_passes < n → list_number true n m ≡ list_number v n m
unfolding list_number
many-number v n m h = rw (lt-ltb max_passes n h)

-- 5 or 9
positive : (b : Bool) → 0 < cond b 5 9
positive true = omega arith
positive false = omega arith

pub many-positive : (n m : ℕ) → max_passes < n → 0 < list_number true n m
unfolding list_number
many-positive n m h = rw (lt-ltb max_passes n h) (positive (ltb max_elements m))

module _ (dir : Direction) (ps : List DecorrPass) (n : ℕ) (l : List ℤ) (r : Result Unit Refusal) (e : outcome_number r ≡ list_number (all_valid (take n ps)) n (length l)) where
  array_by : outcome_number r ≡ number_by dir (all_valid (take n ps)) n (length l)
  array_by = e ∙ sym (number_by_lem dir (all_valid (take n ps)) n (length l))

  -- a list that is refused
  pub array_refused : (q : Refusal) → r ≡ Err q → record { refusal = number_of q; passes = ps; buffer = l } ≡ array_answer dir ps n l
  unfolding array_answer
  array_refused q f = told-kept r q _ ps l (followed (drop n ps) (chained dir (take n ps) l)) array_by f

  -- a list that is accepted: no more than the array has
  pub array_few : r ≡ Ok tt → n ≤ max_passes
  unfolding list_number
  array_few f = few (ltb max_elements (length l)) (all_valid (take n ps)) (ltb max_passes n) refl (sym e ∙ ap outcome_number f)
    where
      few : (s v b : Bool) → ltb max_passes n ≡ b → ◌≡◌ {A = ℕ} (cond s 5 (cond b 9 (cond v 0 7))) 0 → n ≤ max_passes
      few s v false q z = ltb-false max_passes n q
      few true v true q z = absurd (omega arith)
      few false v true q z = absurd (omega arith)

  pub array_accepted : {zs : List DecorrPass} {cs : List ℤ} → r ≡ Ok tt → record { passes = zs; buffer = cs } ≡ followed (drop n ps) (chained dir (take n ps) l)
      → record { refusal = 0; passes = zs; buffer = cs } ≡ array_answer dir ps n l
  unfolding array_answer
  array_accepted f g = told-done r _ ps l (followed (drop n ps) (chained dir (take n ps) l)) array_by f g
