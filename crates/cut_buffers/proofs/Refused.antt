-- A list that is refused over a buffer is refused over its parts (statements in specs/Cut.antt). Assumes
-- nothing.
use mathlib.Core.Path.{◌≡◌}
use mathlib.Core.List.{List}
use Prim.Native.Nat.{ℕ, ◌≤◌, ◌<◌}
use native.Mathlib.Omega.{arith}
use borrow.Author.Tests.{le-ltb}
use lib.IntN.{ℤ}
use lib.ListN.{length, length-take, length-drop}
use Rattle.answers.specs.Limits.{max_elements}
use Rattle.answers.proofs.GuardLaws.{guard_refused}
use Rattle.passes.specs.declared.DecorrPass.{DecorrPass}
use Rattle.passes.specs.declared.Direction.{Direction}
use Rattle.passes.specs.declared.Direction.TheVariants.{Decorrelation, Analysis}
use Rattle.list_tests.specs.Tests.{all_valid, list_number}
use Rattle.list_runs.specs.Chained.{chained}
use Rattle.decorrelation.specs.Lists.{number_by, done, refuse_list, listed}
use Rattle.decorrelation.proofs.Answers.{number_by_lem, refusal-told}
use Rattle.cut_buffers.specs.Cut.{first_part, second_part, DecorrelationRefused, AnalysisRefused}

module _ (d : Direction) (ps : List DecorrPass) where
  -- up to 262,144 elements, how many there are does not matter
  same_number : (l r : List ℤ) → length l ≤ max_elements → length r ≤ max_elements
      → number_by d (all_valid ps) (length ps) (length l) ≡ number_by d (all_valid ps) (length ps) (length r)
  unfolding list_number
  same_number l r h k =
      rw (
        number_by_lem d (all_valid ps) (length ps) (length l),
        number_by_lem d (all_valid ps) (length ps) (length r),
        le-ltb max_elements (length l) h,
        le-ltb max_elements (length r) k,
      )

  -- what is refused over one buffer is refused over another
  pub refused_too : (l r : List ℤ) → length l ≤ max_elements → length r ≤ max_elements → 0 < (listed d ps l).refusal
      → listed d ps r ≡ refuse_list ps r (listed d ps l).refusal
  unfolding listed
  refused_too l r h k p =
      let n = number_by d (all_valid ps) (length ps) (length l) in
      let told = refusal-told n (chained d ps l) ps l in
      let q : 0 < n = rw told at p in
      rw (told, ← same_number l r h k) (guard_refused n (refuse_list ps r) (done (chained d ps r)) q)

  refused-in_two : (l : List ℤ) (n : ℕ) → length l ≤ max_elements → let k = (listed d ps l).refusal in 0 < k
      → (listed d ps (first_part n l) ≡ refuse_list ps (first_part n l) k)
      × (listed d (listed d ps (first_part n l)).passes (second_part n l) ≡ refuse_list ps (second_part n l) k)
  refused-in_two l n h p =
      let first = refused_too l (first_part n l) h (simp length-take (omega arith)) p in
      (first, rw first (refused_too l (second_part n l) h (simp length-drop (omega arith)) p))

-- Q10.1
pub decorrelation-refused : DecorrelationRefused
decorrelation-refused ps l n h p = refused-in_two Decorrelation ps l n h p

-- Q10.4
pub analysis-refused : AnalysisRefused
analysis-refused ps l n h p = refused-in_two Analysis ps l n h p
