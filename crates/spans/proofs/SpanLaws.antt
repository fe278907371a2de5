-- The span: numbers outside it are counted, and a list with none of them is within the span, and so
-- is each of its numbers.
-- Assumes nothing.
use mathlib.Core.Path.{◌≡◌, sym, ap, ◌∙◌}
use mathlib.Core.Bool.{Bool, true, false, cond, ◌&&◌, and-true, and-false}
use mathlib.Core.List.{List, [], ◌∷◌}
use Prim.Native.Nat.{ℕ, zero, suc, ◌+◌, ◌≤◌, ◌<◌}
use native.Mathlib.Nat.{add-zero}
use native.Mathlib.Numerals.{add-one}
use native.Mathlib.Omega.{arith}
use borrow.Author.Tests.{lt-ltb, le-ltb, ne_eqb, ltb-true}
use lib.Dec.{ltb, eqb}
use lib.IntN.{ℤ, pos}
use lib.ListN.{length, drop, get_or, drop_of_length-le}
use lib.Seq.{drop-cons}
use lib.Signed.{mag}
use Rattle.answers.proofs.TestLaws.{both}
use Rattle.spans.specs.Spans.{within, excess_of}

-- so many were outside, and those from i on are left
pub record Spans (span : ℕ) (vs : List ℤ) (outside i : ℕ) : Type 0 where
  pub is : (eqb outside 0 && within span (drop i vs)) ≡ within span vs
  pub few : outside ≤ i
  pub here : i ≤ length vs

module _ (span : ℕ) where
  -- ---- the parts of a list within the span

  -- the first number is within the span, and so are the others
  pub within-parts : (v : ℤ) (vs : List ℤ) → within span (v ∷ vs) ≡ true → (mag v < span) × (within span vs ≡ true)
  unfolding within
  within-parts v vs h = let b = both (ltb (mag v) span) (within span vs) h in (ltb-true (mag v) span b.0, b.1)

  -- and so is each
  pub within-at : (vs : List ℤ) (i : ℕ) → within span vs ≡ true → i < length vs → mag (get_or vs i (pos 0)) < span
  within-at [] i h l = absurd (omega arith)
  within-at (v ∷ vs) zero h l = (within-parts v vs h).0
  within-at (v ∷ vs) (suc i) h l = within-at vs i (within-parts v vs h).1 (omega arith)

  -- ---- numbers outside it, counted

  -- a number within the span counts 0
  pub excess_in : (v : ℤ) → mag v < span → 0 ≡ excess_of span v
  excess_in v h = rw (lt-ltb (mag v) span h)

  -- one outside it counts 1
  pub excess-out : (v : ℤ) → span ≤ mag v → 1 ≡ excess_of span v
  excess-out v h = rw (le-ltb (mag v) span h)

  -- none counts more
  pub excess_le : (v : ℤ) → excess_of span v ≤ 1
  excess_le v = go (ltb (mag v) span)
    where
      go : (t : Bool) → cond t 0 1 ≤ 1
      go true = omega arith
      go false = omega arith

  -- one number more is looked at
  pub spans_step : (vs : List ℤ) (outside i : ℕ) → i < length vs → Spans span vs outside i → Spans span vs (outside + excess_of span (get_or vs i (pos 0))) (i + 1)
  unfolding within
  spans_step vs outside i h s =
      let v = get_or vs i (pos 0) in
      let l = drop (suc i) vs in
      let j : drop (i + 1) vs ≡ l = ap (λ (n : ℕ). drop n vs) (add-one i) in
      record {
        is = rw j (go v l (ltb (mag v) span) ∙ ap (λ (x : List ℤ). eqb outside 0 && within span x) (sym (drop-cons vs i (pos 0) h)) ∙ s.is);
        few = omega (arith, s.few, excess_le v);
        here = omega arith;
      }
    where
      go : (v : ℤ) (l : List ℤ) (t : Bool) → (eqb (outside + cond t 0 1) 0 && within span l) ≡ (eqb outside 0 && (t && within span l))
      go v l true = rw add-zero
      go v l false = rw (ne_eqb (outside + 1) 0 (λ e. omega arith), and-false (eqb outside 0))

  -- all were looked at
  pub spans_end : (vs : List ℤ) (outside i : ℕ) → length vs ≤ i → Spans span vs outside i → eqb outside 0 ≡ within span vs
  unfolding within
  spans_end vs outside i h s = sym (and-true (eqb outside 0)) ∙ ap (λ (x : List ℤ). eqb outside 0 && within span x) (sym (drop_of_length-le vs {i = i} h)) ∙ s.is
