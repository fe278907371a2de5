-- The laws of terms: from the bits of a number to its term, as the code's `match` finds it. Assumes
-- nothing.
use mathlib.Core.Path.{◌≡◌, refl, sym, ap, ◌∙◌}
use Prim.Native.Nat.{ℕ, zero, suc, ◌<◌, ◌≤◌}
use native.Mathlib.Omega.{arith}
use borrow.Author.Tests.{lt-leb, le-leb, ne_eqb}
use lib.IntN.{ℤ, pos, negsuc, nat_abs}
use Rattle.std.proofs.Common.{◌≤ℤ◌, ◌<ℤ◌}
use Rattle.std.proofs.lemmas.Int.{ints}
use mir.Syntax.{w8}
use mir.Val.{SFits, to_z, of_z}
use mir.ValLaws.{to_z-of_z}
use Rattle.passes.specs.Terms.{term_of}
use Rattle.passes.specs.declared.Term.TheVariants.{Lag, Invalid}

-- a number of 8 bits by its bits
pub by_bits : (z : ℤ) (n : ℕ) → SFits w8 z → of_z w8 z ≡ n → z ≡ to_z w8 n
by_bits z n h e = sym (to_z-of_z w8 z h) ∙ ap (to_z w8) e

-- a lag is its own number
pub lag-valid : (z : ℤ) → pos 1 ≤ℤ z → z ≤ℤ pos 8 → Lag (nat_abs z) ≡ term_of z
unfolding term_of
lag-valid (pos zero) l h = absurd (omega (arith, ints))
lag-valid (pos (suc n)) l h = let k : suc n ≤ 8 = omega (arith, ints) in rw (le-leb (suc n) 8 k)
lag-valid (negsuc n) l h = absurd (omega (arith, ints))

-- a number of none of the thirteen terms: below the lags
pub none-below : (z : ℤ) → z <ℤ pos 1 → (of_z w8 z ≡ 255 → ⊥) → (of_z w8 z ≡ 254 → ⊥) → (of_z w8 z ≡ 253 → ⊥) → Invalid ≡ term_of z
unfolding term_of
none-below (pos zero) l p q r = refl
none-below (pos (suc n)) l p q r = absurd (omega (arith, ints))
none-below (negsuc zero) l p q r = absurd (p refl)
none-below (negsuc (suc zero)) l p q r = absurd (q refl)
none-below (negsuc (suc (suc zero))) l p q r = absurd (r refl)
none-below (negsuc (suc (suc (suc n)))) l p q r = refl

-- and above them
pub none-above : (z : ℤ) → pos 9 ≤ℤ z → (of_z w8 z ≡ 17 → ⊥) → (of_z w8 z ≡ 18 → ⊥) → Invalid ≡ term_of z
unfolding term_of
none-above (pos zero) l p q = absurd (omega (arith, ints))
none-above (pos (suc n)) l p q =
    let k : 8 < suc n = omega (arith, ints) in
    rw (lt-leb (suc n) 8 k, ne_eqb (suc n) 17 p, ne_eqb (suc n) 18 q)
none-above (negsuc n) l p q = absurd (omega (arith, ints))
