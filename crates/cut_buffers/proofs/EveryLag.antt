-- Every lag, cut after each of 1 to 7 frames (`EightIsNeeded` of specs/Example.antt): 56 pairs of lists,
-- compared by computing. Assumes nothing.
use mathlib.Core.Path.{◌≡◌, refl}
use mathlib.Core.Bool.{Bool, true, false, not, ◌&&◌}
use mathlib.Core.List.{List, [], ◌∷◌}
use Prim.Native.Nat.{ℕ, zero, suc, ◌<◌}
use native.Mathlib.Decide.{dec_lt}
use native.Mathlib.Omega.{arith}
use borrow.Author.Tests.{eq-eqb}
use lib.Dec.{eqb}
use lib.IntN.{ℤ, pos, nat_abs}
use Rattle.wrapping.specs.Wrap.{wrap32, low32}
use Rattle.weights.specs.Weights.{predict, sample, updated}
use Rattle.answers.proofs.TestLaws.{both}
use Rattle.passes.specs.Terms.{term_of}
use Rattle.passes.specs.Step.{step, advanced}
use Rattle.passes.specs.Run.{passed}
use Rattle.list_tests.specs.Tests.{list_number}
use Rattle.decorrelation.specs.Lists.{decorrelation, listed}
use Rattle.cut_buffers.specs.Cut.{in_parts, cut_into}
use Rattle.cut_buffers.specs.Example.{alone, ones, EightIsNeeded}

-- ---- a test of all numbers below one

-- the test holds of each number below n
unfoldable all_below : ℕ → (ℕ → Bool) → Bool
all_below zero f = true
all_below (suc n) f = f n && all_below n f

below : (n : ℕ) (f : ℕ → Bool) → all_below n f ≡ true → (i : ℕ) → i < n → f i ≡ true
unfolding all_below
below zero f e i h = absurd (omega arith)
below (suc n) f e i h =
    let each = both (f n) (all_below n f) e in
    last (dec_lt i n) (λ k. below n f each.1 i k) each.0
  where
    last : Dec (i < n) → (i < n → f i ≡ true) → f n ≡ true → f i ≡ true
    last (yes k) g t = g k
    last (no k) g t = let same : i ≡ n = omega arith in rw same t

-- ---- lists compared by the sizes of their numbers

unfoldable alike : List ℤ → List ℤ → Bool
alike [] [] = true
alike [] (y ∷ r) = false
alike (x ∷ l) [] = false
alike (x ∷ l) (y ∷ r) = eqb (nat_abs x) (nat_abs y) && alike l r

alike_itself : (l : List ℤ) → alike l l ≡ true
unfolding alike
alike_itself [] = refl
alike_itself (x ∷ l) = rw (eq-eqb (nat_abs x) (nat_abs x) refl, alike_itself l)

-- ---- the table

abbrev in_two_calls : ℕ → ℕ → List ℤ
in_two_calls lag frames = (in_parts decorrelation (alone (pos lag)) (cut_into (frames ∷ []) ones)).buffer

abbrev in_one_call : ℕ → List ℤ
in_one_call lag = (decorrelation (alone (pos lag)) ones).buffer

unfoldable differ : ℕ → ℕ → Bool
differ lag frames = not (alike (in_two_calls (suc lag) (suc frames)) (in_one_call (suc lag)))

all-differ : all_below 8 (λ lag. all_below 7 (differ lag)) ≡ true
unfolding all_below differ alike listed list_number term_of passed step advanced sample predict updated wrap32 low32
all-differ = refl

differ-at : (lag frames : ℕ) → lag < 8 → frames < 7 → differ lag frames ≡ true
differ-at lag frames h k = below 7 (differ lag) (below 8 (λ t. all_below 7 (differ t)) all-differ lag h) frames k

-- lists that the test tells apart are not the same
apart : (l r : List ℤ) → not (alike l r) ≡ true → l ≡ r → ⊥
apart l r d e =
    let same : alike l r ≡ true = rw e (alike_itself r) in
    let z : ◌≡◌ {A = ℕ} 0 1 = cc in omega arith

-- Q10.3
pub eight-is_needed : EightIsNeeded
unfolding differ
eight-is_needed zero frames h k m n e = absurd (omega arith)
eight-is_needed (suc lag) zero h k m n e = absurd (omega arith)
eight-is_needed (suc lag) (suc frames) h k m n e =
    apart (in_two_calls (suc lag) (suc frames)) (in_one_call (suc lag)) (differ-at lag frames (omega arith) (omega arith)) e
