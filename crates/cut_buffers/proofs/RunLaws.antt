-- A pass over a buffer that is cut: what it does to the second part, from the history index where the
-- first ends, is what it does from 0, if that index is a multiple of eight or the term has none. Assumes
-- nothing.
use mathlib.Core.Path.{◌≡◌, refl, sym, ap, ◌∙◌}
use mathlib.Core.Bool.{true, false}
use mathlib.Core.List.{List, [], ◌∷◌, ◌++◌}
use Prim.Native.Nat.{ℕ, zero, suc, ◌+◌, ◌*◌, ◌%◌}
use native.Mathlib.Nat.{zero-add}
use native.Mathlib.Omega.{arith}
use lib.IntN.{ℤ}
use lib.ListN.{length}
use Rattle.passes.specs.Terms.{term_of, is_valid, is_lag}
use Rattle.passes.specs.Step.{rule_of, Stepped, step, unstep}
use Rattle.passes.specs.Run.{run, turn, passed}
use Rattle.passes.specs.declared.DecorrPass.{DecorrPass}
use Rattle.passes.specs.declared.Direction.{Direction}
use Rattle.passes.specs.declared.Direction.TheVariants.{Decorrelation, Analysis}
use Rattle.passes.specs.declared.Term.{Term}
use Rattle.passes.specs.declared.Term.TheVariants.{Lag, Seventeen, Eighteen, MinusOne, MinusTwo, MinusThree, Invalid}
use Rattle.passes.proofs.LoopLaws.{joined}
use Rattle.passes.proofs.Bounds.{passed-term}

-- ---- the history index

-- two indices that the ring of eight does not tell apart
rule_ring : (t : Term) (p : DecorrPass) (m k : ℕ) → m % 8 ≡ k % 8 → rule_of t p m ≡ rule_of t p k
rule_ring (Lag t) p m k e = let f : (m + t) % 8 ≡ (k + t) % 8 = omega arith in rw (e, f)
rule_ring Seventeen p m k e = refl
rule_ring Eighteen p m k e = refl
rule_ring MinusOne p m k e = refl
rule_ring MinusTwo p m k e = refl
rule_ring MinusThree p m k e = refl
rule_ring Invalid p m k e = let f : (m + 0) % 8 ≡ (k + 0) % 8 = omega arith in rw (e, f)

-- any two where the term is valid and no lag
rule_any : (t : Term) (p : DecorrPass) (m k : ℕ) → is_valid t ≡ true → is_lag t ≡ false → rule_of t p m ≡ rule_of t p k
rule_any (Lag t) p m k v e = absurd (let z : ◌≡◌ {A = ℕ} 0 1 = cc in omega arith)
rule_any Seventeen p m k v e = refl
rule_any Eighteen p m k v e = refl
rule_any MinusOne p m k v e = refl
rule_any MinusTwo p m k v e = refl
rule_any MinusThree p m k v e = refl
rule_any Invalid p m k v e = absurd (let z : ◌≡◌ {A = ℕ} 0 1 = cc in omega arith)

-- a step is that of its rule
turn_by : (d : Direction) (t : Term) (p : DecorrPass) (m k : ℕ) (x y : ℤ) → rule_of t p m ≡ rule_of t p k → turn d t p m x y ≡ turn d t p k x y
unfolding step unstep
turn_by Decorrelation t p m k x y e = rw e
turn_by Analysis t p m k x y e = rw e

-- the next two are not told apart either
next-ring : (m k : ℕ) → m % 8 ≡ k % 8 → suc m % 8 ≡ suc k % 8
next-ring m k e = omega arith

-- ---- a run from another index

module _ (F : DecorrPass → ℕ → ℤ → ℤ → Stepped) where
  run_ring : ((p : DecorrPass) (m k : ℕ) (x y : ℤ) → m % 8 ≡ k % 8 → F p m x y ≡ F p k x y)
      → (p : DecorrPass) (m k : ℕ) (l : List ℤ) → m % 8 ≡ k % 8 → run F p m l ≡ run F p k l
  run_ring f p m k [] e = refl
  run_ring f p m k (x ∷ []) e = refl
  run_ring f p m k (x ∷ (y ∷ l)) e =
      rw (f p m k x y e, run_ring f (F p k x y).pass (suc m) (suc k) l (next-ring m k e))

  run_any : ((p : DecorrPass) (m k : ℕ) (x y : ℤ) → F p m x y ≡ F p k x y)
      → (p : DecorrPass) (m k : ℕ) (l : List ℤ) → run F p m l ≡ run F p k l
  run_any f p m k [] = refl
  run_any f p m k (x ∷ []) = refl
  run_any f p m k (x ∷ (y ∷ l)) = rw (f p m k x y, run_any f (F p k x y).pass (suc m) (suc k) l)

  -- ---- a buffer of two parts

  -- the first has n whole frames, and the second goes on at the index where it ends
  run_parts : (n : ℕ) (p : DecorrPass) (m : ℕ) (l r : List ℤ) → length l ≡ 2 * n
      → run F p m (l ++ r) ≡ joined (run F p m l).buffer (run F (run F p m l).pass (m + n) r)
  run_parts zero p m [] r e = let z : m + 0 ≡ m = omega arith in rw z
  run_parts zero p m (x ∷ l) r e = absurd (omega arith)
  run_parts (suc n) p m [] r e = absurd (omega arith)
  run_parts (suc n) p m (x ∷ []) r e = absurd (omega arith)
  run_parts (suc n) p m (x ∷ (y ∷ l)) r e =
      let z : m + suc n ≡ suc m + n = omega arith in
      rw (z, run_parts n (F p m x y).pass (suc m) l r (omega arith))

-- ---- a pass over a buffer of two parts

-- where a cut after n frames does not show in a pass
pub data Unseen (p : DecorrPass) (n : ℕ) : Type 0 where
  ring : n % 8 ≡ 0 → Unseen p n
  no_index : is_valid (term_of p.term) ≡ true → is_lag (term_of p.term) ≡ false → Unseen p n

restarted : (d : Direction) (p q : DecorrPass) (n : ℕ) (l : List ℤ) → Unseen p n
    → run (turn d (term_of p.term)) q n l ≡ run (turn d (term_of p.term)) q 0 l
restarted d p q n l (ring e) = run_ring (turn d t) (λ q m k x y f. turn_by d t q m k x y (rule_ring t q m k f)) q n 0 l e
  where
    t : Term
    t = term_of p.term
restarted d p q n l (no_index v e) = run_any (turn d t) (λ q m k x y. turn_by d t q m k x y (rule_any t q m k v e)) q n 0 l
  where
    t : Term
    t = term_of p.term

-- the second call goes on from the pass that the first one left
pub passed-parts : (d : Direction) (p : DecorrPass) (n : ℕ) (l r : List ℤ) → length l ≡ 2 * n → Unseen p n
    → passed d p (l ++ r) ≡ joined (passed d p l).buffer (passed d (passed d p l).pass r)
unfolding passed
passed-parts d p n l r e u =
    let F = turn d (term_of p.term) in
    let q = (run F p 0 l).pass in
    let same : q.term ≡ p.term = passed-term d p l in
    let cut : run F p 0 (l ++ r) ≡ joined (run F p 0 l).buffer (run F q n r) = rw (zero-add n) at (run_parts F n p 0 l r e) in
    cut ∙ ap (joined (run F p 0 l).buffer) (restarted d p q n r u ∙ ap (λ (z : ℤ). run (turn d (term_of z)) q 0 r) (sym same))
