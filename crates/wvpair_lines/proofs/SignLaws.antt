-- What the test for a negative number tells of its text; the text of an integer is short and reads
-- back.
-- Assumes nothing.
use mathlib.Core.Path.{◌≡◌, refl, sym, ap, ◌∙◌}
use mathlib.Core.Bool.{true, false}
use mathlib.Core.List.{List, [], ◌∷◌}
use Prim.Native.Nat.{ℕ, suc, ◌≤◌, ◌<◌}
use native.Mathlib.Omega.{arith}
use borrow.Author.Tests.{ltb-true, ne_eqb}
use lib.IntN.{ℤ, pos, negsuc, nat_abs, neg_ℤ}
use lib.ListN.{length, get_or}
use lib.Signed.{mag, lt_z}
use Rattle.decimal.specs.Decimal.{decimal, read_digits}
use Rattle.decimal.specs.TextPut.{TextPut}
use Rattle.decimal.proofs.PutLaws.{put_on}
use Rattle.decimal.proofs.DecimalLaws.{decimal-short, decimal-back, decimal-first}
use Rattle.wvpair_lines.specs.Signed.{signed_decimal, read_signed}

-- a negative number prints as `-` and its distance from 0
negative-text : (v : ℤ) → lt_z v (pos 0) ≡ true → signed_decimal v ≡ 45 ∷ decimal (nat_abs v)
unfolding signed_decimal
negative-text (pos n) e = absurd (omega (arith, ltb-true n 0 e))
negative-text (negsuc n) e = refl

-- any other number prints as its distance from 0
unsigned-text : (v : ℤ) → lt_z v (pos 0) ≡ false → signed_decimal v ≡ decimal (nat_abs v)
unfolding signed_decimal
unsigned-text (pos n) e = refl
unsigned-text (negsuc n) e = absurd (let z : ◌≡◌ {A = ℕ} 0 1 = cc in omega arith)

-- so it is put as a minus sign and its distance
pub negative-put : {a b c : List ℕ} {at p q : ℕ} (v : ℤ) (d : ℕ) → at ≤ length a → lt_z v (pos 0) ≡ true
    → d ≡ nat_abs v
    → TextPut a b at p (45 ∷ []) → TextPut b c p q (decimal d) → TextPut a c at q (signed_decimal v)
negative-put v d h t e x y = rw (negative-text v t, ← e) (put_on h x y)

-- and any other as its distance
pub unsigned-put : {a b : List ℕ} {at p : ℕ} (v : ℤ) (d : ℕ) → lt_z v (pos 0) ≡ false → d ≡ nat_abs v
    → TextPut a b at p (decimal d) → TextPut a b at p (signed_decimal v)
unsigned-put v d t e x = rw (unsigned-text v t, ← e) x

-- the distance of a 32-bit number from 0 takes at most ten digits
pub size-short : (v : ℤ) → mag v < 2147483648 → length (decimal (nat_abs v)) ≤ 10
size-short (pos n) h = decimal-short 9 n (omega arith)
size-short (negsuc n) h = decimal-short 9 (suc n) (omega arith)

-- a number of 32 bits takes at most 11 bytes, its sign included
pub signed-short : (v : ℤ) → mag v < 2147483648 → length (signed_decimal v) ≤ 11
unfolding signed_decimal
signed-short (pos n) h = omega (arith, decimal-short 9 n (omega arith))
signed-short (negsuc n) h = omega (arith, decimal-short 9 (suc n) (omega arith))

-- digits are no minus sign
read-unsigned : (text : List ℕ) → 48 ≤ get_or text 0 0 → read_signed text ≡ pos (read_digits 0 text)
unfolding read_signed
read-unsigned [] h = absurd (omega arith)
read-unsigned (c ∷ cs) h = rw (ne_eqb c 45 λ e. omega arith)

-- the text of an integer reads back as that integer
pub signed_back : (v : ℤ) → read_signed (signed_decimal v) ≡ v
unfolding signed_decimal read_signed
signed_back (pos n) = read-unsigned (decimal n) (decimal-first n) ∙ ap pos (decimal-back n)
signed_back (negsuc n) = ap (λ (m : ℕ). neg_ℤ (pos m)) (decimal-back (suc n))

-- two integers never print alike
pub signed_injective : (v w : ℤ) → signed_decimal v ≡ signed_decimal w → v ≡ w
signed_injective v w e = sym (signed_back v) ∙ ap read_signed e ∙ signed_back w
