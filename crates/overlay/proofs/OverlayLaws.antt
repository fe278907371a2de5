-- Laws of values laid into a list. Those that carry the rest: `overlay_first`, `overlay_on` and
-- `overlay_copied`.
-- Assumes nothing.
use mathlib.Core.Path.{◌≡◌, refl, sym, ap, ◌∙◌}
use mathlib.Core.List.{List, [], ◌∷◌, ◌++◌, append_assoc, append-nil}
use Prim.Native.Nat.{ℕ, ◌+◌, ◌-◌, ◌≤◌, ◌<◌}
use native.Mathlib.Nat.{zero-add, add-zero}
use native.Mathlib.Numerals.{add-one}
use native.Mathlib.Omega.{arith}
use lib.ListN.{length, take, drop, set, length-append, take-append-drop}
use lib.Seq.{take_at, drop_at, drop-drop, drop-append-add, take-length, drop-length, length-take-le, set_split, paste, length-paste}
use Rattle.overlay.specs.Overlay.{overlay}

module _ {A : Type 0} where
  -- from the start of a list on: the values, and behind them what it held
  pub overlay_first : (list values : List A) → overlay list 0 values ≡ values ++ drop (length values) list
  unfolding overlay
  overlay_first list values = rw zero-add

  -- no values change nothing
  pub overlay_none : (list : List A) (at : ℕ) → overlay list at [] ≡ list
  unfolding overlay
  overlay_none list at = rw (add-zero, append-nil) (take-append-drop at list)

  -- one value is a store
  pub overlay_one : (list : List A) (at : ℕ) (v : A) → at < length list → set list at v ≡ overlay list at (v ∷ [])
  unfolding overlay
  overlay_one list at v h = rw (set_split list at v h, add-one) (sym (append_assoc (take at list) (v ∷ []) _))

  -- a copy of all values has laid them
  pub overlay_copied : (list values : List A) (at i : ℕ) → i ≡ length values → paste list at values i ≡ overlay list at values
  unfolding overlay
  overlay_copied list values at i e = rw (e, take-length values)

  -- the list keeps its length
  pub overlay_length : (list : List A) (at : ℕ) (values : List A) → at + length values ≤ length list → length (overlay list at values) ≡ length list
  overlay_length list at values h =
      rw (← overlay_copied list values at (length values) refl) (length-paste list at values (length values) h (omega arith))

  -- values for every place
  pub overlay_whole : (list values : List A) → length values ≡ length list → overlay list 0 values ≡ values
  overlay_whole list values e = rw (overlay_first list values, e, drop-length list, append-nil values)

  -- values right behind values are both as one
  pub overlay_on : (list : List A) (at n : ℕ) (v w : List A) → at ≤ length list → at + length v ≡ n
      → overlay (overlay list at v) n w ≡ overlay list at (v ++ w)
  unfolding overlay
  overlay_on list at n v w h e =
      let done = take at list ++ v in
      let long : length done ≡ n = rw (length-append (take at list) v, length-take-le at list h) e in
      let rest : drop (n + length w) (done ++ drop n list) ≡ drop (n + length w) list =
      sym (drop-drop (length w) n (done ++ drop n list)) ∙ ap (drop (length w)) (drop_at done (drop n list) n long) ∙ drop-drop (length w) n list in
      let all : at + length (v ++ w) ≡ n + length w = rw (length-append v w) (omega arith) in
      rw (all, e, take_at done (drop n list) n long, rest, append_assoc (take at list) v w)

  -- so are those that two calls laid
  pub overlay_two : (list first after : List A) (at n : ℕ) (v w : List A) → at ≤ length list → at + length v ≡ n
      → first ≡ overlay list at v → after ≡ overlay first n w → after ≡ overlay list at (v ++ w)
  overlay_two list first after at n v w h l e f = f ∙ rw e (overlay_on list at n v w h l)

  -- laid over twice from the start, the second time at least as far
  pub overlay_again : (list v w : List A) → length v ≤ length w → overlay (overlay list 0 v) 0 w ≡ overlay list 0 w
  overlay_again list v w h =
      let m = length w - length v in
      let e : length w ≡ length v + m = omega arith in
      let rest : drop (length w) (v ++ drop (length v) list) ≡ drop (length w) list =
      ap (λ (n : ℕ). drop n (v ++ drop (length v) list)) e ∙ drop-append-add v (drop (length v) list) m ∙ drop-drop m (length v) list
      ∙ ap (λ (n : ℕ). drop n list) (sym e) in
      rw (overlay_first list v, overlay_first (v ++ drop (length v) list) w, overlay_first list w, rest)

  -- values whose first are those that the list begins with: only the others are laid
  pub overlay_behind : (list v : List A) (a : ℕ) → a ≤ length list → overlay list 0 (take a list ++ v) ≡ take a list ++ overlay (drop a list) 0 v
  overlay_behind list v a h =
      let l : length (take a list ++ v) ≡ a + length v = length-append (take a list) v ∙ ap (λ (n : ℕ). n + length v) (length-take-le a list h) in
      rw (overlay_first list (take a list ++ v), overlay_first (drop a list) v, l, drop-drop (length v) a list)
      (append_assoc (take a list) v (drop (a + length v) list))

  -- the values are what the list then holds there
  pub overlay_take : (list values : List A) → take (length values) (overlay list 0 values) ≡ values
  overlay_take list values = rw (overlay_first list values) (take_at values (drop (length values) list) (length values) refl)

-- two values at place 1 of a list of four
two_of_four : ◌≡◌ {A = List ℕ} (overlay (1 ∷ 2 ∷ 3 ∷ 4 ∷ []) 1 (8 ∷ 9 ∷ [])) (1 ∷ 8 ∷ 9 ∷ 4 ∷ [])
unfolding overlay
two_of_four = refl
