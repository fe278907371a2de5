-- The seed medians are numbers of 32 bits, and a refusal of a payload is at most 17.
-- Assumes nothing.
use mathlib.Core.Path.{◌≡◌, refl}
use mathlib.Core.Bool.{Bool, true, false, cond, ◌||◌}
use mathlib.Core.List.{List}
use Prim.Native.Nat.{ℕ, zero, suc, ◌≤◌}
use native.Mathlib.Omega.{arith}
use lib.Dec.{eqb, eqb-suc-zero}
use lib.IntN.{ℤ, pos, negsuc, nat_abs}
use lib.ListN.{length, get_or, drop}
use mir.Syntax.{w32}
use mir.Val.{SFits}
use Rattle.answers.specs.Guard.{or_else}
use Rattle.logpack.proofs.LogWordLaws.{log_word-fits}
use Rattle.entropy.specs.declared.EntropyInfo.{EntropyInfo}
use Rattle.entropy.specs.Medians.{MedianPair, Small, medians_of, zero_set, zero_pair}
use Rattle.entropy.specs.Entropy.{word_set, zero_words, past_reach, length_refusal, entropy_info, entropy_refusal}
use Rattle.entropy.specs.Seed.{is_negative, not_stereo, seed_refusal, seed_set, seed_pair, seed_medians}
use Rattle.entropy.proofs.EntropyLaws.{info_cases}
use Rattle.entropy.proofs.SeedLaws.{NoneNegative, none-negative, stereo}

-- both sets
abbrev SmallPair : MedianPair → Type 0
SmallPair pair = Small pair.left × Small pair.right

-- each signed median of a set has 32 bits
record Signed32 (set : List ℤ) : Type 0 where
  s0 : SFits w32 (get_or set 0 (pos 0))
  s1 : SFits w32 (get_or set 1 (pos 0))
  s2 : SFits w32 (get_or set 2 (pos 0))

-- and so of both sets
record InfoFits (info : EntropyInfo) : Type 0 where
  left : Signed32 info.medians_left
  right : Signed32 info.medians_right

-- log words have
words-fit : (p : List ℕ) → Signed32 (word_set p)
unfolding word_set
words-fit p = record { s0 = log_word-fits _; s1 = log_word-fits _; s2 = log_word-fits _ }

-- zeros have
zeros-fit : Signed32 zero_words
zeros-fit = record { s0 = record { sfits = omega arith }; s1 = record { sfits = omega arith }; s2 = record { sfits = omega arith } }

-- and so have those of any payload
info_fits : (p : List ℕ) → InfoFits (entropy_info p)
info_fits p =
    info_cases InfoFits p (record { left = words-fit p; right = zeros-fit })
    (record { left = words-fit p; right = words-fit (drop 6 p) })
    (record { left = zeros-fit; right = zeros-fit })

-- a number of 32 bits that is not negative, taken as one without a sign
natural-small : (z : ℤ) → SFits w32 z → is_negative z ≡ false → nat_abs z ≤ 4294967295
natural-small (pos n) f e = omega (arith, f.sfits)
natural-small (negsuc n) f e = absurd (let z : ◌≡◌ {A = ℕ} 0 1 = cc in omega arith)

-- so is a set of them
set-small : (set : List ℤ) → Signed32 set → NoneNegative set → Small (seed_set set)
set-small set f n =
    record { small0 = natural-small _ f.s0 n.n0; small1 = natural-small _ f.s1 n.n1; small2 = natural-small _ f.s2 n.n2 }

-- medians of 0 have 32 bits
pub none-small : Small (medians_of zero_set)
none-small = record { small0 = omega arith; small1 = omega arith; small2 = omega arith }

-- by the refusal of the length and the test of stereo
by-test : (p : List ℕ) (n : ℕ) (b : Bool) → not_stereo p ≡ b → SmallPair (cond (eqb (or_else n (cond b 2 0)) 0) (seed_pair (entropy_info p)) zero_pair)
by-test p zero true e = (none-small, none-small)
by-test p zero false e =
    let f = info_fits p in
    let s = stereo p e in
    (set-small _ f.left (none-negative _ s.left), set-small _ f.right (none-negative _ s.right))
by-test p (suc n) b e = rw (eqb-suc-zero n) (none-small, none-small)

-- the law: whatever the payload, its seed medians have 32 bits
pub seeds-small : (p : List ℕ) → Small (seed_medians p).left × Small (seed_medians p).right
unfolding seed_medians seed_refusal
seeds-small p = by-test p (entropy_refusal p) (not_stereo p) refl

-- of two numbers, whichever
pub cond_le : (t : Bool) (a b n : ℕ) → a ≤ n → b ≤ n → cond t a b ≤ n
cond_le true a b n h k = h
cond_le false a b n h k = k

-- of two refusals, the first that applies
or_le : (a b n : ℕ) → a ≤ n → b ≤ n → or_else a b ≤ n
or_le zero b n h k = k
or_le (suc a) b n h k = h

-- the refusal of a payload
pub seed_le : (p : List ℕ) → seed_refusal p ≤ 17
unfolding seed_refusal entropy_refusal
seed_le p =
    or_le (entropy_refusal p) (cond (not_stereo p) 2 0) 17
    (or_le (length_refusal p) (cond (past_reach p) 17 0) 17 (cond_le (eqb (length p) 6 || eqb (length p) 12) 0 1 17 (omega arith) (omega arith)) (cond_le (past_reach p) 17 0 17 (omega arith) (omega arith)))
    (cond_le (not_stereo p) 2 0 17 (omega arith) (omega arith))
