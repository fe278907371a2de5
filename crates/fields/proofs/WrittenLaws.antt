-- What the writers of the fields cite: the parts of each field, its length, and the number that its
-- bits are.
-- Assumes nothing.
use mathlib.Core.Path.{◌≡◌, refl, sym, ap, ap₂, ◌∙◌}
use mathlib.Core.Bool.{Bool}
use mathlib.Core.List.{List, ◌++◌}
use Prim.Native.Nat.{ℕ, zero, suc, ◌+◌, ◌-◌, ◌*◌, ◌/◌, ◌%◌, ◌^◌, ◌≤◌, ◌<◌}
use native.Mathlib.Nat.{mod-eq_of_lt, lt_of_lt_of_le, pow-suc}
use native.Mathlib.Decide.{dec_lt}
use native.Mathlib.Omega.{arith}
use borrow.Author.Tests.{lt-ltb, le-ltb, eq-eqb, ne_eqb}
use lib.Pow.{pow_mono, pow_pos, shl_exact}
use lib.ListN.{length, length-append}
use Rattle.answers.specs.Limits.{max_width}
use Rattle.bits.specs.Bits.{low, num}
use Rattle.bits.specs.Fields.{unary_field}
use Rattle.bits.proofs.BitLaws.{length-low, num_append, num_lt, num-low, low-num}
use Rattle.bits.proofs.LaidLaws.{low-none}
use Rattle.fields.specs.Code.{bit_length}
use Rattle.fields.proofs.LengthLaws.{Long, long, long_le}
use Rattle.fields.specs.Written.{run_field, prefix_field, code_bits, code_field}
use Rattle.fields.specs.Gathered.{Gathers}
use Rattle.fields.specs.declared.Gathered.{Gathered}

-- ---- run lengths and prefixes

-- 0 and 1 stand for themselves
pub run_short : (n : ℕ) → n < 2 → run_field n ≡ unary_field n
unfolding run_field
run_short n h = rw (lt-ltb n 2 h)

-- a run length of 2 or more, b its bit length
pub record RunParts (n b : ℕ) : Type 0 where
  pub some : 1 ≤ b
  pub most : b ≤ 32
  pub parts : run_field n ≡ unary_field b ++ low (b - 1) n
  pub size : length (run_field n) ≡ length (unary_field b) + (b - 1)

-- they are its parts
pub run_parts : (n b : ℕ) → 2 ≤ n → n < 2 ^ 32 → b ≡ bit_length n → RunParts n b
unfolding run_field
run_parts n b h l e =
    let g : Long n b = rw e (long n (omega arith) l) in
    let p : run_field n ≡ unary_field b ++ low (b - 1) n = rw (e, le-ltb n 2 h) in
    record {
      some = g.some;
      most = long_le n b 32 g l;
      parts = p;
      size =
          ap length p ∙ length-append (unary_field b) (low (b - 1) n)
          ∙ ap (λ (k : ℕ). length (unary_field b) + k) (length-low (b - 1) n);
    }

-- below 16 a prefix is that many ones
pub prefix-short : (v : ℕ) → v < 16 → prefix_field v ≡ unary_field v
unfolding prefix_field
prefix-short v h = rw (lt-ltb v 16 h)

-- from 16 on it is escaped
pub prefix-escaped : (v : ℕ) → 16 ≤ v → prefix_field v ≡ unary_field 16 ++ run_field (v - 16)
unfolding prefix_field
prefix-escaped v h = rw (le-ltb v 16 h)

-- ---- numbers

-- a number that gathers f and one that gathers g, the second above the first
pub record Joined (f g : List Bool) (x n y : ℕ) : Type 0 where
  pub number : x + y * 2 ^ n % 2 ^ 64 ≡ num (f ++ g)
  pub fits : x + y * 2 ^ n % 2 ^ 64 < 18446744073709551616
  pub size : n + length g ≡ length (f ++ g)

-- their sum gathers both
pub joined : (f g : List Bool) (x n y : ℕ) → x ≡ num f → n ≡ length f → y ≡ num g → length f + length g ≤ 64
    → Joined f g x n y
joined f g x n y a b c h =
    let l = length-append f g in
    let s : y * 2 ^ n % 2 ^ 64 ≡ y * 2 ^ n = shl_exact (length g) n 64 (rw c (num_lt g)) (omega arith) in
    let e : x + y * 2 ^ n ≡ num (f ++ g) = rw (a, b, c) (sym (num_append f g)) in
    let t : num (f ++ g) < 2 ^ 64 =
    lt_of_lt_of_le (num_lt (f ++ g)) (pow_mono {i = length (f ++ g)} {j = 64} (omega arith)) in
    record { number = rw s e; fits = rw s (omega arith); size = omega arith }

-- what is gathered is below its power of 2, and its bits are those
pub record Known (f : List Bool) (value count : ℕ) : Type 0 where
  pub below : value < 2 ^ count
  pub bits : low count value ≡ f

-- so it is for all that is gathered
pub known : (f : List Bool) (r : Gathered) → Gathers f r → Known f r.value r.count
known f r g =
    record {
      below = rw (g.value-is, g.count-is) (num_lt f);
      bits = rw (g.value-is, g.count-is) (low-num f);
    }

-- ones and a zero are a power of 2 less 1
pub unary-num : (c : ℕ) → 2 ^ c - 1 ≡ num (unary_field c)
unfolding unary_field num
unary-num zero = refl
unary-num (suc c) = omega (arith, unary-num c, pow-suc 2 c, pow_pos c)

-- ---- codes

module _ (d x c : ℕ) where
  -- a code below x has d bits
  pub code-short : c < x → code_bits (d + 1) x c ≡ low d c
  unfolding code_bits
  code-short h = let e : d + 1 - 1 ≡ d = omega arith in rw (lt-ltb c x h, e)

  -- any other has one more
  pub code-long : x ≤ c → code_bits (d + 1) x c ≡ low d ((c + x) / 2) ++ low 1 (c + x)
  unfolding code_bits
  code-long h = let e : d + 1 - 1 ≡ d = omega arith in rw (le-ltb c x h, e)

  -- the number of a short code's bits
  pub short-num : c < x → x ≤ 2 ^ d → c ≡ num (code_bits (d + 1) x c)
  short-num h l = rw (code-short h, num-low d c) (let l : c < 2 ^ d = omega arith in sym (mod-eq_of_lt l))

  -- and how many they are
  pub short-size : c < x → d ≡ length (code_bits (d + 1) x c)
  short-size h = rw (code-short h) (sym (length-low d c))

  -- the number of a long code's bits
  pub long-num : x ≤ c → c + x < 2 * 2 ^ d → (c + x) / 2 + (c + x) % 2 * 2 ^ d ≡ num (code_bits (d + 1) x c)
  long-num h l =
      rw (code-long h)
      (sym (num_append (low d ((c + x) / 2)) (low 1 (c + x))
      ∙ ap₂ (λ (a b : ℕ). a + b) (num-low d ((c + x) / 2) ∙ mod-eq_of_lt (omega arith))
      (ap₂ (λ (a b : ℕ). a * 2 ^ b) (num-low 1 (c + x)) (length-low d ((c + x) / 2)))))

  -- and how many they are
  pub long-size : x ≤ c → d + 1 ≡ length (code_bits (d + 1) x c)
  long-size h =
      rw (code-long h) (sym (length-append (low d ((c + x) / 2)) (low 1 (c + x))
      ∙ ap₂ (λ (a b : ℕ). a + b) (length-low d ((c + x) / 2)) (length-low 1 (c + x))))

-- a code inside an interval whose last code is M, by the bit length of M with its low bit set: one
-- rule for M = 0 too
pub record Uniform (M c b : ℕ) : Type 0 where
  pub some : 0 < b
  pub most : b ≤ 28
  pub twice : 2 ^ b ≡ 2 * 2 ^ (b - 1)
  pub above : M < 2 ^ b
  pub extras : 2 ^ b - M - 1 ≤ 2 ^ (b - 1)
  pub sum : c + (2 ^ b - M - 1) < 2 * 2 ^ (b - 1)
  pub is : code_field M c ≡ code_bits b (2 ^ b - M - 1) c

-- two bit lengths of one number are equal
long_same : (n a b : ℕ) → Long n a → Long n b → a ≡ b
long_same n a b l m = let x = long_le n a b l m.above in let y = long_le n b a m l.above in omega arith

-- so it is for every code of an interval of at most 2 ^ 28
pub uniform : (M c b : ℕ) → c ≤ M → M < max_width → b ≡ bit_length (M / 2 * 2 + 1) → Uniform M c b
unfolding code_field
uniform M c b h l e =
    let g : Long (M / 2 * 2 + 1) b = rw e (long (M / 2 * 2 + 1) (omega arith) (omega arith)) in
    let w : b ≤ 28 = long_le (M / 2 * 2 + 1) b 28 g (omega arith) in
    record {
      some = g.some;
      most = w;
      twice = g.twice;
      above = omega arith;
      extras = omega arith;
      sum = omega arith;
      is = go (dec_lt 0 M) g;
    }
  where
    go : Dec (0 < M) → Long (M / 2 * 2 + 1) b → code_field M c ≡ code_bits b (2 ^ b - M - 1) c
    go (yes p) g =
        let m = long M p (omega arith) in
        let k : bit_length M ≡ b =
        long_same (M / 2 * 2 + 1) (bit_length M) b
        (record { some = m.some; twice = m.twice; above = omega arith; below = omega arith }) g in
        rw (ne_eqb M 0 (λ z. omega arith), k)
    go (no p) g =
        let z : M ≡ 0 = omega arith in
        let k : b ≡ 1 = omega (arith, long_le (M / 2 * 2 + 1) b 1 g (omega arith)) in
        rw (eq-eqb M 0 z, z, k) (sym (code-short 0 1 c (omega arith) ∙ low-none c))
