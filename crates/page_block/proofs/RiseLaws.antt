-- Rises are clicks: of the sample before, only whether it is loud counts.
-- Assumes nothing.
use mathlib.Core.Path.{◌≡◌, refl, ap₂}
use mathlib.Core.Bool.{Bool, true, false, cond, ◌&&◌, not}
use mathlib.Core.List.{List, [], ◌∷◌}
use Prim.Native.Nat.{ℕ, ◌+◌, ◌≤◌, ◌<◌}
use native.Mathlib.Omega.{arith}
use borrow.Author.Tests.{le-ltb}
use lib.Dec.{ltb}
use lib.IntN.{ℤ, nat_abs}
use lib.ListN.{length}
use Rattle.page_block.specs.Heard.{exceeds, is_loud, rises, last_loud_of}
use Rattle.page_block.specs.Sound.{click, clicks, last_distance}

-- a rise is a click
rise_is-click : (t d e : ℕ) → exceeds (exceeds e t) (exceeds d t) ≡ click t d e
unfolding exceeds click
rise_is-click t d e = go (ltb t d) (ltb t e)
  where
    go : (b c : Bool) → ◌≡◌ {A = ℕ} (cond (ltb (cond b 1 0) (cond c 1 0)) 1 0) (cond (c && not b) 1 0)
    go true true = refl
    go true false = refl
    go false true = refl
    go false false = refl

-- so all rises are all clicks, after a sample at any distance
pub rises_are_clicks : (t d : ℕ) (vs : List ℤ) → rises t (exceeds d t) vs ≡ clicks t d vs
unfolding rises clicks
rises_are_clicks t d [] = refl
rises_are_clicks t d (v ∷ vs) =
    ap₂ (λ (a b : ℕ). a + b) (rise_is-click t d (nat_abs v)) (rises_are_clicks t (nat_abs v) vs)

-- and the last sample is loud where its distance exceeds the threshold
pub last-is_loud : (t d : ℕ) (vs : List ℤ) → last_loud_of t (exceeds d t) vs ≡ exceeds (last_distance d vs) t
unfolding last_loud_of last_distance
last-is_loud t d [] = refl
last-is_loud t d (v ∷ vs) = last-is_loud t (nat_abs v) vs

-- before the first sample nothing is loud
pub none_loud : (t : ℕ) → 0 ≡ exceeds 0 t
unfolding exceeds
none_loud t = rw (le-ltb t 0 (omega arith))

-- a sample is at most one rise
pub exceeds-few : (n m : ℕ) → exceeds n m ≤ 1
unfolding exceeds
exceeds-few n m = go (ltb m n)
  where
    go : (t : Bool) → cond t 1 0 ≤ 1
    go true = omega arith
    go false = omega arith

-- so there are at most as many as samples
pub rises-few : (t p : ℕ) (vs : List ℤ) → rises t p vs ≤ length vs
unfolding rises
rises-few t p [] = omega arith
rises-few t p (v ∷ vs) = omega (arith, exceeds-few (is_loud t v) p, rises-few t (is_loud t v) vs)
