-- Laws of the seed medians: the three answers that a payload can call for, and what a stereo
-- payload has none of.
-- Assumes nothing.
use mathlib.Core.Path.{◌≡◌, refl}
use mathlib.Core.Bool.{Bool, true, false, ◌||◌}
use mathlib.Core.List.{List}
use Prim.Native.Nat.{ℕ, zero, suc, ◌<◌}
use native.Mathlib.Omega.{arith}
use lib.Dec.{T, eqb-suc-zero}
use lib.IntN.{ℤ, pos, negsuc, nat_abs}
use lib.ListN.{get_or}
use lib.Signed.{non_neg}
use mir.Syntax.{w32}
use mir.Val.{Fits, SFits, to_z, of_z}
use mir.ValLaws.{to_z-of_z}
use Rattle.answers.proofs.TestLaws.{neither}
use Rattle.entropy.specs.declared.EntropyInfo.{EntropyInfo}
use Rattle.entropy.specs.Medians.{Medians, MedianPair, zero_pair}
use Rattle.entropy.specs.Entropy.{entropy_info, entropy_refusal, is_mono}
use Rattle.entropy.specs.Seed.{is_negative, any_negative, not_stereo, seed_refusal, seed_set, seed_pair, seed_medians}

-- the answer that a payload calls for
abbrev pub Seeds : List ℕ → ℕ → MedianPair → Type 0
Seeds payload n pair = (n ≡ seed_refusal payload) × (pair ≡ seed_medians payload)

-- a payload that is refused before its signs are asked is refused with that number
pub length-refused : (p : List ℕ) (n : ℕ) → 0 < n → n ≡ entropy_refusal p → Seeds p n zero_pair
unfolding seed_medians seed_refusal
length-refused p zero h e = absurd (omega arith)
length-refused p (suc n) h e = rw (← e) (refl, simp eqb-suc-zero)

-- any other payload is refused with 2 where it is mono or has a negative median
pub not_stereo_lem : (p : List ℕ) → 0 ≡ entropy_refusal p → not_stereo p ≡ true → Seeds p 2 zero_pair
unfolding seed_medians seed_refusal
not_stereo_lem p e t = rw (← e, t) (refl, refl)

-- and otherwise accepted, with its sets
pub accepted : (p : List ℕ) → 0 ≡ entropy_refusal p → not_stereo p ≡ false → Seeds p 0 (seed_pair (entropy_info p))
unfolding seed_medians seed_refusal
accepted p e t = rw (← e, t) (refl, refl)

-- none of a set's medians is negative
pub record NoneNegative (set : List ℤ) : Type 0 where
  pub n0 : is_negative (get_or set 0 (pos 0)) ≡ false
  pub n1 : is_negative (get_or set 1 (pos 0)) ≡ false
  pub n2 : is_negative (get_or set 2 (pos 0)) ≡ false

pub none-negative : (set : List ℤ) → any_negative set ≡ false → NoneNegative set
unfolding any_negative
none-negative set e =
    let a = is_negative (get_or set 0 (pos 0)) in
    let b = is_negative (get_or set 1 (pos 0)) in
    let d = is_negative (get_or set 2 (pos 0)) in
    let all = neither (a || b) d e in
    let two = neither a b all.0 in
    record { n0 = two.0; n1 = two.1; n2 = all.1 }

-- the test behind refusal 2, by what the code finds of the payload and of what it expands to
pub not_stereo-by :
    (p : List ℕ) (i : EntropyInfo) (m a b : Bool) → i ≡ entropy_info p → m ≡ is_mono p → a ≡ any_negative i.medians_left → b ≡ any_negative i.medians_right
    → (m || a || b) ≡ not_stereo p
unfolding not_stereo
not_stereo-by p i m a b e f g h = rw (f, g, h, e)

-- a stereo payload has no negative median
pub record Stereo (info : EntropyInfo) : Type 0 where
  pub left : any_negative info.medians_left ≡ false
  pub right : any_negative info.medians_right ≡ false

pub stereo : (p : List ℕ) → not_stereo p ≡ false → Stereo (entropy_info p)
unfolding not_stereo
stereo p e =
    let m = is_mono p in
    let a = any_negative (entropy_info p).medians_left in
    let b = any_negative (entropy_info p).medians_right in
    let all = neither (m || a) b e in
    record { left = (neither m a all.0).1; right = all.1 }

-- nor has what it expands to, as the code holds it
pub stereo-raw : (p : List ℕ) (i : EntropyInfo) → i ≡ entropy_info p → not_stereo p ≡ false → Stereo i
stereo-raw p i e t = rw e (stereo p t)

-- a number that is not negative keeps its value as an unsigned one
pub natural : (z : ℤ) → SFits w32 z → is_negative z ≡ false → T (non_neg (to_z w32 (of_z w32 z))) × Fits w32 (nat_abs (to_z w32 (of_z w32 z)))
natural (pos n) f e = rw (to_z-of_z w32 (pos n) f) (tt, record { fits = omega (arith, f.sfits) })
natural (negsuc n) f e = absurd (let z : ◌≡◌ {A = ℕ} 0 1 = cc in omega arith)

-- with the sets i that the payload expands to, as the code holds them
pub accepted-raw : (p : List ℕ) (i : EntropyInfo) (a b : Medians) → 0 ≡ entropy_refusal p → i ≡ entropy_info p → not_stereo p ≡ false → a ≡ seed_set i.medians_left → b ≡ seed_set i.medians_right → Seeds p 0 (record { left = a; right = b })
accepted-raw p i a b g j t ha hb = rw (ha, hb, j) (accepted p g t)
