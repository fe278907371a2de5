-- Fields at the start of a window: the two cases of a code, the interval of one number among them,
-- and a prefix of few ones.
-- Assumes nothing.
use mathlib.Core.Path.{◌≡◌, refl, sym, ap, ◌∙◌}
use mathlib.Core.Bool.{Bool, true, false, cond}
use mathlib.Core.List.{List}
use Prim.Native.Nat.{ℕ, zero, suc, ◌+◌, ◌-◌, ◌*◌, ◌/◌, ◌%◌, ◌^◌, ◌≤◌, ◌<◌}
use native.Mathlib.Nat.{pow-suc, mod-lt}
use native.Mathlib.Omega.{arith}
use borrow.Author.Tests.{lt-ltb, ltb-true, ltb-false, ne_eqb}
use lib.Dec.{ltb}
use lib.Pow.{pow_pos}
use Rattle.std.specs.Prelude.{Option, Some, Ok}
use Rattle.bits.specs.Bits.{low, ones}
use Rattle.bits.specs.Window.{Window}
use Rattle.bits.proofs.OnesLaws.{counted, trailing_ones, passed_none, passed-stop}
use Rattle.bits.proofs.ReadLaws.{bits_none}
use Rattle.bits.proofs.RegisterLaws.{window_shift}
use Rattle.bits.proofs.Window.{window-bits}
use Rattle.fields.specs.Code.{bit_length, code_of, truncated_binary, CodeIn}
use Rattle.fields.specs.Counts.{prefix}
use Rattle.fields.proofs.CodeLaws.{code-long-most}
use Rattle.fields.proofs.LengthLaws.{Long, long, long_le}

-- ---- how long the last code is

-- a number has one bit length
long_same : (n b c : ℕ) → Long n b → Long n c → b ≡ c
long_same n b c l m = omega (arith, long_le n b c l m.above, long_le n c b m l.above)

-- a power that is at most a number with its lowest bit set is at most the number
odd-below : (n c : ℕ) → 0 < n → 2 ^ c ≤ n / 2 * 2 + 1 → 2 ^ c ≤ n
odd-below n zero h g = omega arith
odd-below n (suc c) h g = omega (arith, pow-suc 2 c)

-- with its lowest bit set a number is as long
long-odd : (n b : ℕ) → 0 < n → Long (n / 2 * 2 + 1) b → Long n b
long-odd n b h l = record { some = l.some; twice = l.twice; above = omega (arith, l.twice, l.above); below = odd-below n (b - 1) h l.below }

-- what is known of the bit length b of M with its lowest bit set
pub record Wide (M b : ℕ) : Type 0 where
  pub some : 0 < b
  pub most : b ≤ 31
  pub twice : 2 ^ b ≡ 2 * 2 ^ (b - 1)
  pub above : M < 2 ^ b
  pub none : M ≡ 0 → b ≡ 1
  pub below : 0 < M → Long M b

pub wide : (M b : ℕ) → M < 2147483648 → b ≡ bit_length (M / 2 * 2 + 1) → Wide M b
wide M b h e =
    let l : Long (M / 2 * 2 + 1) b = rw e (long (M / 2 * 2 + 1) (omega arith) (omega arith)) in
    record {
      some = l.some;
      most = long_le (M / 2 * 2 + 1) b 31 l (omega arith);
      twice = l.twice;
      above = omega (arith, l.above);
      none = λ z. one z l;
      below = λ p. long-odd M b p l;
    }
  where
    one : M ≡ 0 → Long (M / 2 * 2 + 1) b → b ≡ 1
    one z l = omega (arith, l.some, long_le (M / 2 * 2 + 1) b 1 l (omega arith))

-- ---- a code

-- both cases of a code of b bits, of which x are short
code_cases : (bits : List Bool) (p j v b x : ℕ) → Window bits p j v → 0 < b → b ≤ j
    → let s = v % 2 ^ (b - 1) in
    code_of bits p b x ≡ Some (cond (ltb s x) s (2 * s - x + v / 2 ^ (b - 1) % 2), p + (b - 1 + cond (ltb s x) 0 1))
unfolding code_of
code_cases bits p j v b x y h l =
    rw (
      window-bits bits p j v (b - 1) y (omega arith),
      window-bits bits (p + (b - 1)) (j - (b - 1)) (v / 2 ^ (b - 1)) 1 (window_shift bits p j v (b - 1) y (omega arith)) (omega arith),
    )
    (go (v % 2 ^ (b - 1)) (v / 2 ^ (b - 1) % 2) (ltb (v % 2 ^ (b - 1)) x))
  where
    go : (s t : ℕ) (c : Bool) → cond {A = Option (ℕ × ℕ)} c (Some (s, p + (b - 1))) (Some (2 * s - x + t, p + (b - 1) + 1)) ≡ Some (cond c s (2 * s - x + t), p + (b - 1 + cond c 0 1))
    go s t true = ap (λ (q : ℕ). Some (s, q)) (omega arith)
    go s t false = ap (λ (q : ℕ). Some (2 * s - x + t, q)) (omega arith)

-- the code of an interval of one number, as a code that has no bits
no_bits_lem : (bits : List Bool) (p M b : ℕ) → M ≡ 0 → b ≡ 1 → truncated_binary bits p M ≡ code_of bits p b (2 ^ b - M - 1)
unfolding truncated_binary code_of
no_bits_lem bits p M b e f = rw (e, f, bits_none bits p)

-- the code of any other
some_bits : (bits : List Bool) (p M b : ℕ) → M < 2 ^ 32 → 0 < M → Long M b → truncated_binary bits p M ≡ code_of bits p b (2 ^ b - M - 1)
unfolding truncated_binary
some_bits bits p M b h z l = rw (ne_eqb M 0 (λ e. omega arith), long_same M (bit_length M) b (long M z h) l)

-- so for every interval
pub as_code : (bits : List Bool) (p M b : ℕ) → M < 2147483648 → Wide M b → truncated_binary bits p M ≡ code_of bits p b (2 ^ b - M - 1)
as_code bits p M b h w = go M refl
  where
    go : (n : ℕ) → M ≡ n → truncated_binary bits p M ≡ code_of bits p b (2 ^ b - M - 1)
    go zero e = no_bits_lem bits p M b e (w.none e)
    go (suc n) e = some_bits bits p M b (omega arith) (omega arith) (w.below (omega arith))

-- a code is within its interval, in both cases
code-within : (M b s t : ℕ) (c : Bool) → Wide M b → ltb s (2 ^ b - M - 1) ≡ c → s < 2 ^ (b - 1) → t < 2 → cond c s (2 * s - (2 ^ b - M - 1) + t) ≤ M
code-within M b s t true w e hs ht = short M refl
  where
    short : (n : ℕ) → M ≡ n → s ≤ M
    short zero z = let f = w.none z in omega (arith, rw f at hs)
    short (suc n) z = omega (arith, ltb-true s (2 ^ b - M - 1) e, w.twice, (w.below (omega arith)).below)
code-within M b s t false w e hs ht =
    code-long-most b (2 ^ b - M - 1) s t M (omega (arith, w.above, w.twice)) hs ht (ltb-false s (2 ^ b - M - 1) e)

-- and takes no more bits than hold the last code
code_bits_lem : (M b s w : ℕ) (c : Bool) → Wide M b → ltb s (2 ^ b - M - 1) ≡ c → s < 2 ^ (b - 1) → M < 2 ^ w → b - 1 + cond c 0 1 ≤ w
code_bits_lem M b s w c g e hs h = go M refl c e
  where
    none : (c : Bool) → b ≡ 1 → M ≡ 0 → ltb s (2 ^ b - M - 1) ≡ c → b - 1 + cond c 0 1 ≤ w
    none true f z e = omega arith
    none false f z e = absurd (omega (arith, ltb-false s (2 ^ b - M - 1) e, rw f at hs, g.twice))

    last : (c : Bool) → b - 1 + cond c 0 1 ≤ b
    last true = omega arith
    last false = omega (arith, g.some)

    go : (n : ℕ) → M ≡ n → (c : Bool) → ltb s (2 ^ b - M - 1) ≡ c → b - 1 + cond c 0 1 ≤ w
    go zero z c e = none c (g.none z) z e
    go (suc n) z c e = omega (arith, last c, long_le M b w (g.below (omega arith)) h)

-- what the code's choices give
pub code_in : (v M b : ℕ) → M < 2147483648 → Wide M b →
    let s = v % 2 ^ (b - 1) in
    let x = 2 ^ b - M - 1 in
    CodeIn v M (cond (ltb s x) s (2 * s - x + v / 2 ^ (b - 1) % 2)) (b - 1 + cond (ltb s x) 0 1)
code_in v M b h w =
    let s = v % 2 ^ (b - 1) in
    let x = 2 ^ b - M - 1 in
    let l = mod-lt v (pow_pos (b - 1)) in
    record {
      is = λ bits p j y g. as_code bits p M b h w ∙ code_cases bits p j v b x y w.some (omega (arith, w.most));
      within = code-within M b s (v / 2 ^ (b - 1) % 2) (ltb s x) w refl l (omega arith);
      most = λ n g. code_bits_lem M b s n (ltb s x) w refl l g;
    }

-- ---- a prefix

-- fewer than 16 ones at the start of a window of 64 bits
pub few_ones : (bits : List Bool) (p w n : ℕ) → Window bits p 64 w → n ≡ ones (low 64 w) → n < 16 → prefix bits p ≡ Ok (n, p + n + 1)
unfolding prefix
few_ones bits p w n v e h =
    let k = trailing_ones 64 w v.small in
    let c = rw (k, sym e) at (counted bits p 64 64 w v (omega arith)) in
    let u = passed-stop (passed_none bits p) c (omega arith) in
    let m : p + n - p ≡ n = omega arith in
    rw (u, m, lt-ltb n 16 h)
