-- A list whose elements are replaced where they stand, one after the other, each by what its place
-- and its value ask for.
-- Assumes nothing.
use mathlib.Core.Path.{◌≡◌, refl, sym, ap, ap₂, ◌∙◌}
use mathlib.Core.List.{List, [], ◌∷◌, ◌++◌, map, append-nil}
use Prim.Native.Nat.{ℕ, suc, ◌+◌, ◌≤◌, ◌<◌}
use native.Mathlib.Numerals.{add-one}
use native.Mathlib.Decide.{dec_lt}
use native.Mathlib.Omega.{arith}
use lib.IntN.{ℤ, pos}
use lib.ListN.{length, take, drop, set, get_or, length-set, drop_of_length-le, get_or-eq_default}
use mir.Syntax.{w32}
use mir.Val.{SFits}
use lib.Seq.{get_or-drop, take_all, drop-cons, drop-drop, drop-set-lt, take-suc-set, append_snoc}
use Rattle.int32.specs.Info.{Samples32}

-- each element from the place i on, replaced
unfoldable pub map_from : (ℕ → ℤ → ℤ) → ℕ → List ℤ → List ℤ
map_from f i [] = []
map_from f i (x ∷ xs) = f i x ∷ map_from f (suc i) xs

-- the first i elements are replaced
pub record Replaced (f : ℕ → ℤ → ℤ) (before after : List ℤ) (i : ℕ) : Type 0 where
  pub same_length : length after ≡ length before
  pub here : i ≤ length after
  pub rest : drop i after ≡ drop i before
  pub whole : take i after ++ map_from f i (drop i after) ≡ map_from f 0 before

drop-one : (l : List ℤ) (i : ℕ) → drop 1 (drop i l) ≡ drop (suc i) l
drop-one l i = drop-drop 1 i l ∙ ap (λ (n : ℕ). drop n l) (add-one i)

-- the element that is next is the one that was there
pub replaced-next : (f : ℕ → ℤ → ℤ) (before after : List ℤ) (i : ℕ) → Replaced f before after i
    → get_or after i (pos 0) ≡ get_or before i (pos 0)
replaced-next f before after i r =
    let z : i + 0 ≡ i = omega arith in
    ap (λ (n : ℕ). get_or after n (pos 0)) (sym z) ∙ sym (get_or-drop i after 0 (pos 0))
    ∙ ap (λ (l : List ℤ). get_or l 0 (pos 0)) r.rest ∙ get_or-drop i before 0 (pos 0)
    ∙ ap (λ (n : ℕ). get_or before n (pos 0)) z

-- the first i are numbers of 32 bits
abbrev pub Read : List ℤ → ℕ → Type 0
Read samples i = (j : ℕ) → j < i → SFits w32 (get_or samples j (pos 0))

pub read_more : (samples : List ℤ) (i : ℕ) → SFits w32 (get_or samples i (pos 0)) → Read samples i
    → Read samples (i + 1)
read_more samples i f r j h = go (dec_lt j i)
  where
    go : Dec (j < i) → SFits w32 (get_or samples j (pos 0))
    go (yes l) = r j l
    go (no l) = let e : i ≡ j = omega arith in rw (← e) f

pub read_all : (samples : List ℤ) (i : ℕ) → length samples ≤ i → Read samples i → Samples32 samples
read_all samples i h r j = go (dec_lt j i)
  where
    go : Dec (j < i) → SFits w32 (get_or samples j (pos 0))
    go (yes l) = r j l
    go (no l) = rw (get_or-eq_default samples (pos 0) {n = j} (omega arith))
        (record { sfits = omega arith })

module _ (f : ℕ → ℤ → ℤ) (before : List ℤ) where
  pub replaced-more : (after : List ℤ) (i : ℕ) (v : ℤ) → i < length after → v ≡ f i (get_or after i (pos 0))
      → Replaced f before after i
      → Replaced f before (set after i v) (i + 1)
  unfolding map_from
  replaced-more after i v h e r =
      let rest = map_from f (suc i) (drop (suc i) after) in
      let t : take (suc i) (set after i v) ≡ take i after ++ v ∷ [] = take-suc-set after i v h in
      let d : drop (suc i) (set after i v) ≡ drop (suc i) after =
      drop-set-lt (suc i) after i v (omega arith) in
      let next : drop (suc i) after ≡ drop (suc i) before =
      sym (drop-one after i) ∙ ap (drop 1) r.rest ∙ drop-one before i in
      let c : v ∷ rest ≡ map_from f i (drop i after) = ap (λ (x : ℤ). x ∷ rest) e ∙ ap (map_from f i)
      (sym (drop-cons after i (pos 0) h)) in
      rw (add-one i) (record {
        same_length = length-set after i v ∙ r.same_length;
        here = omega (arith, length-set after i v);
        rest = d ∙ next;
        whole =
            ap₂ (λ (x y : List ℤ). x ++ map_from f (suc i) y) t d ∙ append_snoc (take i after) v rest
            ∙ ap (λ (x : List ℤ). take i after ++ x) c ∙ r.whole;
      })

  pub replaced-all : (after : List ℤ) (i : ℕ) → length after ≤ i → Replaced f before after i
      → after ≡ map_from f 0 before
  unfolding map_from
  replaced-all after i h r =
      let t : take i after ≡ after = take_all i after h in
      let d : drop i after ≡ [] = drop_of_length-le after {i = i} h in
      sym (append-nil after) ∙ ap₂ (λ (x y : List ℤ). x ++ map_from f i y) (sym t) (sym d) ∙ r.whole

-- ---- what the loops replace

-- a map
pub map_from_lem : (g : ℤ → ℤ) (i : ℕ) (xs : List ℤ) → map g xs ≡ map_from (λ _ x. g x) i xs
unfolding map_from
map_from_lem g i [] = refl
map_from_lem g i (x ∷ xs) = ap (λ (l : List ℤ). g x ∷ l) (map_from_lem g (suc i) xs)
