-- Two lists of bytes that are compared.
-- Assumes nothing.
use mathlib.Core.Path.{◌≡◌, refl, sym, ap₂, ◌∙◌}
use mathlib.Core.Bool.{Bool, true, false, ◌&&◌}
use mathlib.Core.List.{List, [], ◌∷◌}
use Prim.Native.Nat.{ℕ}
use borrow.Author.Tests.{eq-eqb, ne_eqb, eqb-true, eqb-false}
use lib.Dec.{eqb}
use Rattle.std.specs.Cmp.Lexicographic.{pointwise}
use Rattle.answers.proofs.TestLaws.{clash, both}
use Rattle.wave_header.specs.Wave.{alike}

-- a list is like itself
pub alike_same : (l : List ℕ) → alike l l ≡ true
unfolding alike
alike_same [] = refl
alike_same (a ∷ l) = rw (eq-eqb a a refl, alike_same l)

-- lists that are alike are the same
pub alike_is : (a b : List ℕ) → alike a b ≡ true → a ≡ b
unfolding alike
alike_is [] [] h = refl
alike_is [] (y ∷ b) h = clash refl (sym h)
alike_is (x ∷ a) [] h = clash refl (sym h)
alike_is (x ∷ a) (y ∷ b) h = let p = both (eqb x y) (alike a b) h in
    ap₂ (λ (z : ℕ) (l : List ℕ). z ∷ l) (eqb-true x y p.0) (alike_is a b p.1)

eqb_swap : (x y : ℕ) → eqb y x ≡ eqb x y
eqb_swap x y = go (eqb x y) refl
  where
    go : (t : Bool) → eqb x y ≡ t → eqb y x ≡ eqb x y
    go true e = let same = eqb-true x y e in eq-eqb y x (sym same) ∙ sym e
    go false e = ne_eqb y x (λ s. eqb-false x y e (sym s)) ∙ sym e

-- std's comparison finds lists that are alike
pub compared_alike : (a b : List ℕ) → pointwise eqb b a ≡ alike a b
unfolding alike
compared_alike [] [] = refl
compared_alike [] (y ∷ b) = refl
compared_alike (x ∷ a) [] = refl
compared_alike (x ∷ a) (y ∷ b) = ap₂ (λ (s t : Bool). s && t) (eqb_swap x y) (compared_alike a b)
