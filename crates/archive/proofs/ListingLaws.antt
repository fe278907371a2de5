-- The recordings in force, a part of a file after the other.
-- Assumes nothing.
use mathlib.Core.Path.{◌≡◌, refl, sym, ap, ◌∙◌}
use mathlib.Core.Bool.{Bool, true, false, cond}
use mathlib.Core.List.{List, [], ◌∷◌, ◌++◌, append_assoc}
use Prim.Native.Nat.{ℕ, ◌+◌, ◌*◌, ◌≤◌, ◌<◌}
use native.Mathlib.Omega.{arith}
use lib.ListN.{length, take, drop, get_or, length-append, take-append-drop}
use lib.Seq.{take-add, drop-cons, drop-drop}
use Rattle.archive.specs.Recording.{Recording}
use Rattle.archive.specs.Listing.{superseded, not_superseded, in_force, listed, payloads}

-- one recording or none before a list
choice_append : (t : Bool) (r : Recording) (x y z : List Recording) → x ≡ y ++ z
    → cond t x (r ∷ x) ≡ cond t y (r ∷ y) ++ z
choice_append true r x y z e = e
choice_append false r x y z e = ap (λ (l : List Recording). r ∷ l) e

-- those of a part and then of another
pub force_append : (file a b : List Recording)
    → not_superseded file (a ++ b) ≡ not_superseded file a ++ not_superseded file b
unfolding not_superseded
force_append file [] b = refl
force_append file (r ∷ a) b =
    choice_append (superseded file r) r (not_superseded file (a ++ b)) (not_superseded file a)
    (not_superseded file b)
    (force_append file a b)

-- those of one
pub force-one : (file : List Recording) (r : Recording)
    → not_superseded file (r ∷ []) ≡ cond (superseded file r) [] (r ∷ [])
unfolding not_superseded
force-one file r = refl

-- four numbers of each
pub listed-length : (rs : List Recording) → length (listed rs) ≡ 4 * length rs
unfolding listed
listed-length [] = refl
listed-length (r ∷ rs) = let n = listed-length rs in omega arith

pub listed_append : (a b : List Recording) → listed (a ++ b) ≡ listed a ++ listed b
unfolding listed
listed_append [] b = refl
listed_append (r ∷ a) b = ap (λ (l : List ℕ). r.house ∷ r.start ∷ r.issue ∷ length r.payload ∷ l)
    (listed_append a b)

pub payloads_append : (a b : List Recording) → payloads (a ++ b) ≡ payloads a ++ payloads b
unfolding payloads
payloads_append [] b = refl
payloads_append (r ∷ a) b =
    ap (λ (l : List ℕ). r.payload ++ l) (payloads_append a b)
    ∙ sym (append_assoc r.payload (payloads a) (payloads b))

module _ (rs : List Recording) where
  -- up to one, and then to another
  pub kept_on : (i n : ℕ) → not_superseded rs (take (i + n) rs) ≡ not_superseded rs
      (take i rs) ++ not_superseded rs (take n (drop i rs))
  kept_on i n = ap (not_superseded rs) (take-add i n rs) ∙ force_append rs (take i rs) (take n (drop i rs))

  -- the one
  pub one_of : (i : ℕ) (d : Recording) → i < length rs → take 1 (drop i rs) ≡ get_or rs i d ∷ []
  one_of i d h = rw (drop-cons rs i d h)

  -- one more of a part
  pub between_more : (i n : ℕ) → not_superseded rs (take (n + 1) (drop i rs))
      ≡ not_superseded rs (take n (drop i rs)) ++ not_superseded rs (take 1 (drop (i + n) rs))
  between_more i n =
      ap (not_superseded rs) (take-add n 1 (drop i rs))
      ∙ force_append rs (take n (drop i rs)) (take 1 (drop n (drop i rs)))
      ∙ ap (λ (l : List Recording). not_superseded rs (take n (drop i rs)) ++ not_superseded rs (take 1 l))
      (drop-drop n i rs)

  -- none of it is more than all
  pub kept-all : (i : ℕ) → in_force rs ≡ not_superseded rs (take i rs) ++ not_superseded rs (drop i rs)
  kept-all i = ap (not_superseded rs) (sym (take-append-drop i rs)) ∙ force_append rs (take i rs) (drop i rs)

  pub kept-few : (i : ℕ) → length (not_superseded rs (take i rs)) ≤ length (in_force rs)
  kept-few i =
      let e = ap length (kept-all i) in
      let n = length-append (not_superseded rs (take i rs)) (not_superseded rs (drop i rs)) in omega arith

  pub kept_small : (i : ℕ) → length (payloads (not_superseded rs (take i rs))) ≤ length (payloads (in_force rs))
  kept_small i =
      let e = ap (λ (l : List Recording). length (payloads l)) (kept-all i) in
      let a = not_superseded rs (take i rs) in
      let b = not_superseded rs (drop i rs) in
      let p = ap length (payloads_append a b) in
      let n = length-append (payloads a) (payloads b) in omega arith
