-- Channels, peaks and clicks of two lists of frames, one after the other.
-- Assumes nothing.
use mathlib.Core.Path.{◌≡◌, refl, ap}
use mathlib.Core.Bool.{Bool, true, false, cond, ◌&&◌, not}
use mathlib.Core.List.{List, [], ◌∷◌, ◌++◌}
use Prim.Native.Nat.{ℕ, zero, suc, ◌+◌, ◌%◌, ◌≤◌, ◌<◌}
use native.Mathlib.Omega.{arith}
use lib.Dec.{ltb}
use lib.IntN.{ℤ, pos, negsuc, nat_abs}
use lib.ListN.{length, take, get_or}
use lib.Signed.{mag}
use Rattle.page_block.specs.Sound.{lefts, rights, peak, click, clicks, last_distance}

-- ---- the channels of two lists

-- whole frames and others after them
pub lefts_append : (a b : List ℤ) → length a % 2 ≡ 0 → lefts (a ++ b) ≡ lefts a ++ lefts b
unfolding lefts
lefts_append [] b e = refl
lefts_append (l ∷ []) b e = absurd (omega arith)
lefts_append (l ∷ r ∷ a) b e = ap (λ (vs : List ℤ). l ∷ vs) (lefts_append a b (omega arith))

pub rights_append : (a b : List ℤ) → length a % 2 ≡ 0 → rights (a ++ b) ≡ rights a ++ rights b
unfolding rights
rights_append [] b e = refl
rights_append (l ∷ []) b e = absurd (omega arith)
rights_append (l ∷ r ∷ a) b e = ap (λ (vs : List ℤ). r ∷ vs) (rights_append a b (omega arith))

-- no frames have no samples
pub lefts-none : lefts [] ≡ []
unfolding lefts
lefts-none = refl

pub rights-none : rights [] ≡ []
unfolding rights
rights-none = refl

-- no channel has more samples than there are
pub lefts-few : (samples : List ℤ) → length (lefts samples) ≤ length samples
unfolding lefts
lefts-few [] = omega arith
lefts-few (l ∷ []) = omega arith
lefts-few (l ∷ r ∷ samples) = omega (arith, lefts-few samples)

pub rights-few : (samples : List ℤ) → length (rights samples) ≤ length samples
unfolding rights
rights-few [] = omega arith
rights-few (l ∷ []) = omega arith
rights-few (l ∷ r ∷ samples) = omega (arith, rights-few samples)

-- ---- clicks

-- the clicks of samples and of others after them
pub clicks_append : (t d : ℕ) (a b : List ℤ)
    → clicks t d (a ++ b) ≡ clicks t d a + clicks t (last_distance d a) b
unfolding clicks last_distance
clicks_append t d [] b = omega arith
clicks_append t d (v ∷ a) b = omega (arith, clicks_append t (nat_abs v) a b)

-- the last of both is the last of the second
pub last_append : (d : ℕ) (a b : List ℤ) → last_distance d (a ++ b) ≡ last_distance (last_distance d a) b
unfolding last_distance
last_append d [] b = refl
last_append d (v ∷ a) b = last_append (nat_abs v) a b

-- a sample is at most one click
pub click-few : (t d e : ℕ) → click t d e ≤ 1
unfolding click
click-few t d e = go (ltb t e && not (ltb t d))
  where
    go : (b : Bool) → cond b 1 0 ≤ 1
    go true = omega arith
    go false = omega arith

-- so there are at most as many as samples
pub clicks-few : (t d : ℕ) (vs : List ℤ) → clicks t d vs ≤ length vs
unfolding clicks
clicks-few t d [] = omega arith
clicks-few t d (v ∷ vs) = omega (arith, click-few t d (nat_abs v), clicks-few t (nat_abs v) vs)

-- ---- peaks of 32-bit samples

-- the distance of a 32-bit sample is at most 2,147,483,648
distance-small : (v : ℤ) → mag v < 2147483648 → nat_abs v ≤ 2147483648
distance-small (pos n) h = omega arith
distance-small (negsuc n) h = omega arith

-- and so is the peak of the first of some
pub left-peak-small : (m : ℕ) (samples : List ℤ) → ((i : ℕ) → mag (get_or samples i (pos 0)) < 2147483648)
    → peak (lefts (take m samples)) ≤ 2147483648
unfolding lefts peak
left-peak-small zero samples h = omega arith
left-peak-small (suc m) [] h = omega arith
left-peak-small (suc zero) (l ∷ samples) h = omega arith
left-peak-small (suc (suc m)) (l ∷ []) h = omega arith
left-peak-small (suc (suc m)) (l ∷ r ∷ samples) h =
    omega (arith, distance-small l (h 0), left-peak-small m samples (λ i. h (suc (suc i))))

pub right-peak-small : (m : ℕ) (samples : List ℤ) → ((i : ℕ) → mag (get_or samples i (pos 0)) < 2147483648)
    → peak (rights (take m samples)) ≤ 2147483648
unfolding rights peak
right-peak-small zero samples h = omega arith
right-peak-small (suc m) [] h = omega arith
right-peak-small (suc zero) (l ∷ samples) h = omega arith
right-peak-small (suc (suc m)) (l ∷ []) h = omega arith
right-peak-small (suc (suc m)) (l ∷ r ∷ samples) h =
    omega (arith, distance-small r (h 1), right-peak-small m samples (λ i. h (suc (suc i))))
