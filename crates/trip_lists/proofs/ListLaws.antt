-- Lists copied element by element.
-- Assumes nothing.
use mathlib.Core.Path.{◌≡◌, refl, sym, ap, ◌∙◌}
use mathlib.Core.List.{List, [], ◌∷◌, ◌++◌}
use Prim.Native.Nat.{ℕ, suc, ◌+◌, ◌≤◌, ◌<◌}
use native.Mathlib.Numerals.{add-one}
use native.Mathlib.Omega.{arith}
use lib.IntN.{ℤ, pos}
use lib.ListN.{length, take, get_or, set, length-set}
use mir.Syntax.{w32}
use mir.Val.{SFits}
use native.Mathlib.Decide.{dec_lt}
use Rattle.passes.specs.Run.{Fit}
use Rattle.trip_lists.specs.Same.{CopyIs}
use lib.Seq.{take_all, take-suc, take-suc-set}

-- the first i elements are copied
pub record Copied (from before to : List ℤ) (i : ℕ) : Type 0 where
  pub here : i ≤ length from
  pub same : length to ≡ length before
  pub front : take i to ≡ take i from
  pub fits : (j : ℕ) → j < i → SFits w32 (get_or from j (pos 0))

-- none is copied yet
pub copied-start : (from before : List ℤ) → Copied from before before 0
copied-start from before = record { here = omega arith; same = refl; front = refl; fits = λ j h. absurd (omega arith) }

-- one more is copied
pub copied-step : (from before to : List ℤ) (i : ℕ) → i < length from → length from ≡ length before → SFits w32 (get_or from i (pos 0)) → Copied from before to i → Copied from before (set to i (get_or from i (pos 0))) (i + 1)
copied-step from before to i h e f c = record {
  here = omega arith;
  same = length-set to i (get_or from i (pos 0)) ∙ c.same;
  front =
      rw (add-one i)
      (take-suc-set to i (get_or from i (pos 0)) (omega (arith, c.same)) ∙ ap (λ (l : List ℤ). l ++ get_or from i (pos 0) ∷ []) c.front ∙ sym (take-suc from i (pos 0) h));
  fits = λ j l. last j (dec_lt j i) l;
}
  where
    last : (j : ℕ) → Dec (j < i) → j < i + 1 → SFits w32 (get_or from j (pos 0))
    last j (yes k) l = c.fits j k
    last j (no k) l = let n : j ≡ i = omega arith in rw n f

-- a list whose elements all have 32 bits
all_fit : (l : List ℤ) → ((j : ℕ) → j < length l → SFits w32 (get_or l j (pos 0))) → Fit l
all_fit [] h = tt
all_fit (x ∷ l) h = (h 0 (omega arith), all_fit l (λ j k. h (suc j) (omega arith)))

-- all are copied
pub copied-end : (from before to : List ℤ) (i : ℕ) → length from ≤ i → length from ≡ length before → Copied from before to i → CopyIs from to
copied-end from before to i h e c = record {
  copied = sym (take_all i to (omega (arith, c.same))) ∙ c.front ∙ take_all i from h;
  fit = all_fit from (λ j k. c.fits j (omega arith));
}
