-- Decimal text reads back as its number, has no leading zero, and is short.
-- Assumes nothing.
use mathlib.Core.Path.{◌≡◌, refl, sym, ap, ◌∙◌}
use mathlib.Core.Bool.{Bool, true, false, cond}
use mathlib.Core.List.{List, [], ◌∷◌, ◌++◌}
use Prim.Native.Nat.{ℕ, zero, suc, ◌+◌, ◌-◌, ◌*◌, ◌/◌, ◌%◌, ◌^◌, ◌≤◌, ◌<◌}
use native.Mathlib.Nat.{pow-suc}
use native.Mathlib.Decide.{dec_lt}
use native.Mathlib.Omega.{arith}
use lib.Dec.{ltb}
use lib.ListN.{length, get_or, length-append, get_or-append}
use borrow.Author.Tests.{lt-ltb, le-ltb, ltb-false}
use Rattle.decimal.specs.Decimal.{digits, decimal, read_digits}

-- ---- a number by its tenth part

-- n in decimal where it has more than one digit and k divisions are allowed for the others
abbrev behind : ℕ → ℕ → List ℕ
behind k n = digits k (n / 10) ++ ((48 + n % 10) ∷ [])

-- the divisions that are allowed do not matter once they are enough
digits-enough : (j k n : ℕ) → n < j → n < k → digits j n ≡ digits k n
unfolding digits
digits-enough zero k n h l = absurd (omega arith)
digits-enough (suc j) zero n h l = absurd (omega arith)
digits-enough (suc j) (suc k) n h l = go (ltb n 10) refl (λ d. digits-enough j k (n / 10) (omega arith) (omega arith))
  where
    go : (t : Bool) → ltb n 10 ≡ t → (10 ≤ n → digits j (n / 10) ≡ digits k (n / 10))
        → cond t ((48 + n) ∷ []) (behind j n) ≡ cond t ((48 + n) ∷ []) (behind k n)
    go true e f = refl
    go false e f = ap (λ (d : List ℕ). d ++ ((48 + n % 10) ∷ [])) (f (ltb-false n 10 e))

-- a number below ten is one digit
pub decimal-one : (n : ℕ) → n < 10 → decimal n ≡ (48 + n) ∷ []
unfolding decimal digits
decimal-one n h = rw (lt-ltb n 10 h)

-- any other is its tenth part, and behind that its last digit
pub decimal-more : (n : ℕ) → 10 ≤ n → decimal n ≡ decimal (n / 10) ++ ((48 + n % 10) ∷ [])
unfolding decimal digits
decimal-more n h =
    ap (λ (t : Bool). cond t ((48 + n) ∷ []) (behind n n)) (le-ltb n 10 h)
    ∙ ap (λ (d : List ℕ). d ++ ((48 + n % 10) ∷ [])) (digits-enough n (suc (n / 10)) (n / 10) (omega arith) (omega arith))

-- what holds of one digit, and of each number whose tenth part it holds of, holds of all
pub by_tenths : (P : ℕ → Type 0) → ((n : ℕ) → n < 10 → P n) → ((n : ℕ) → 10 ≤ n → P (n / 10) → P n) → (n : ℕ) → P n
by_tenths P one more n = up_to (suc n) n (omega arith)
  where
    up_to : (k n : ℕ) → n < k → P n
    up_to zero n h = absurd (omega arith)
    up_to (suc k) n h = go (dec_lt n 10) (λ l. up_to k (n / 10) (omega arith))
      where
        go : Dec (n < 10) → (10 ≤ n → P (n / 10)) → P n
        go (yes l) f = one n l
        go (no l) f = more n (omega arith) (f (omega arith))

-- ---- how long it is

-- there is at least one digit
pub decimal-some : (n : ℕ) → 0 < length (decimal n)
decimal-some = by_tenths (λ n. 0 < length (decimal n)) (λ n h. rw (decimal-one n h) (omega arith)) λ n h t.
    rw (decimal-more n h, length-append) (omega arith)

-- the last digit is one byte more
pub more-length : (n : ℕ) → 10 ≤ n → length (decimal n) ≡ length (decimal (n / 10)) + 1
more-length n h = rw (decimal-more n h, length-append)

-- k + 1 digits hold each number below 10 ^ (k + 1)
pub decimal-short : (k n : ℕ) → n < 10 ^ suc k → length (decimal n) ≤ suc k
decimal-short zero n h = rw (decimal-one n h) (omega arith)
decimal-short (suc k) n h = go (dec_lt n 10) (decimal-short k (n / 10) (omega (arith, pow-suc 10 (suc k))))
  where
    go : Dec (n < 10) → length (decimal (n / 10)) ≤ suc k → length (decimal n) ≤ suc (suc k)
    go (yes l) t = rw (decimal-one n l) (omega arith)
    go (no l) t = omega (arith, more-length n (omega arith))

-- ---- it reads back

-- the digits of two parts are read one part after the other
read_append : (n : ℕ) (a b : List ℕ) → read_digits n (a ++ b) ≡ read_digits (read_digits n a) b
unfolding read_digits
read_append n [] b = refl
read_append n (c ∷ a) b = read_append (10 * n + (c - 48)) a b

-- the text of n reads back as n
pub decimal-back : (n : ℕ) → read_digits 0 (decimal n) ≡ n
unfolding read_digits
decimal-back = by_tenths (λ n. read_digits 0 (decimal n) ≡ n) (λ n h. rw (decimal-one n h) (omega arith)) λ n h t.
    rw (decimal-more n h, read_append 0 (decimal (n / 10)) ((48 + n % 10) ∷ []), t) (omega arith)

-- two numbers never print alike
pub decimal_injective : (m n : ℕ) → decimal m ≡ decimal n → m ≡ n
decimal_injective m n e = sym (decimal-back m) ∙ ap (read_digits 0) e ∙ decimal-back n

-- ---- its first byte

-- the first byte is a digit
pub decimal-first : (n : ℕ) → 48 ≤ get_or (decimal n) 0 0
decimal-first = by_tenths (λ n. 48 ≤ get_or (decimal n) 0 0) (λ n h. rw (decimal-one n h) (omega arith)) λ n h t.
    rw (decimal-more n h, get_or-append (decimal (n / 10)) ((48 + n % 10) ∷ []) 0 0 (decimal-some (n / 10))) t

-- and it is not `0` unless the number is: there is no leading zero
pub no_leading_zero : (n : ℕ) → 0 < n → 48 < get_or (decimal n) 0 0
no_leading_zero = by_tenths (λ n. 0 < n → 48 < get_or (decimal n) 0 0) (λ n h l. rw (decimal-one n h) (omega arith)) λ n h t l.
    rw (decimal-more n h, get_or-append (decimal (n / 10)) ((48 + n % 10) ∷ []) 0 0 (decimal-some (n / 10))) (t (omega arith))
