-- A negative word is worked out from its negation: the negation is at hand at 32 bits, is a word's
-- size, and is not negative.
-- Assumes nothing.
use mathlib.Core.Path.{◌≡◌, ap, ◌∙◌}
use mathlib.Core.Bool.{Bool, true, false}
use Prim.Native.Nat.{ℕ, suc, ◌<◌, ◌≤◌}
use native.Mathlib.Nat.{zero-add}
use native.Mathlib.Omega.{arith}
use lib.Dec.{T}
use lib.IntN.{ℤ, pos, negsuc, neg_ℤ, nat_abs, ◌-ℤ◌}
use lib.Signed.{lt_z, non_neg}
use mir.Syntax.{w32}
use mir.Val.{Fits, SFits, to_z, of_z}
use mir.ValLaws.{to_z-of_z}
use borrow.Author.Tests.{ltb-true}
use Rattle.wrapping.specs.Wrap.{wrap32}
use Rattle.logpack.specs.LogWord.{magnitude, log_word}
use Rattle.logpack.proofs.LogWordLaws.{magnitude-fits, log_word-fits}

-- the falling number: 1 for a negative word, 0 otherwise
abbrev pub negative : ℤ → ℕ
negative (pos n) = 0
negative (negsuc n) = 1

-- a signed number, written to its bits and read back
abbrev pub again : ℤ → ℤ
again z = to_z w32 (of_z w32 z)

-- what the call at the negation of z asks, and what it gives
pub record Negated (z : ℤ) : Type 0 where
  pub fits : SFits w32 (pos 0 -ℤ again z)
  pub size : nat_abs (again (pos 0 -ℤ again z)) ≤ 32768
  pub less : negative (again (pos 0 -ℤ again z)) < negative z
  pub value : wrap32 (neg_ℤ (again (log_word (again (pos 0 -ℤ again z))))) ≡ log_word z

pub negated : (z : ℤ) → SFits w32 z → nat_abs z ≤ 32768 → lt_z (again z) (pos 0) ≡ true → Negated z
unfolding log_word
negated (pos n) f h t = absurd (omega (arith, ltb-true n 0 (rw (to_z-of_z w32 (pos n) f) at t)))
negated (negsuc n) f h t =
    let s : SFits w32 (pos (suc n)) = record { sfits = omega arith } in
    let d : pos 0 -ℤ again (negsuc n) ≡ pos (suc n) = rw (to_z-of_z w32 (negsuc n) f, zero-add (suc n)) in
    let e : again (pos 0 -ℤ again (negsuc n)) ≡ pos (suc n) = ap again d ∙ to_z-of_z w32 (pos (suc n)) s in
    record {
      fits = rw d s;
      size = rw e h;
      less = rw e (omega arith);
      value = rw (e, to_z-of_z w32 (magnitude (suc n)) (magnitude-fits (suc n)));
    }

-- the value of a negative word, as the code comes by it
pub negated-raw : {z e r : ℤ} → e ≡ log_word (again (pos 0 -ℤ again z)) → r ≡ wrap32 (neg_ℤ (again e)) → Negated z → again r ≡ log_word z
negated-raw {z} p q n = rw (q, p, n.value) (to_z-of_z w32 (log_word z) (log_word-fits z))

-- the test of the code: a negative word does not fail it
tested : (n : ℕ) → SFits w32 (negsuc n) → lt_z (again (negsuc n)) (pos 0) ≡ false → ⊥
tested n f t =
    let b : ◌≡◌ {A = Bool} true false = rw (to_z-of_z w32 (negsuc n) f) at t in
    let z : ◌≡◌ {A = ℕ} 0 1 = cc in
    omega arith

-- a word that is not negative is a number of its own
pub plain_fits : (z : ℤ) → SFits w32 z → lt_z (again z) (pos 0) ≡ false → T (non_neg (again z)) × Fits w32 (nat_abs (again z))
plain_fits (pos n) f t = rw (to_z-of_z w32 (pos n) f) (tt, record { fits = omega (arith, f.sfits) })
plain_fits (negsuc n) f t = absurd (tested n f t)

-- the value of a word that is not negative, as the code comes by it
pub plain-raw : (z : ℤ) {r : ℤ} → r ≡ magnitude (nat_abs (again z)) → SFits w32 z → lt_z (again z) (pos 0) ≡ false → again r ≡ log_word z
unfolding log_word
plain-raw (pos n) p f t = rw (p, to_z-of_z w32 (pos n) f) (to_z-of_z w32 (magnitude n) (magnitude-fits n))
plain-raw (negsuc n) p f t = absurd (tested n f t)
