-- Laws of the low bits of a number and of the number of some bits, each for every width, and of the
-- bits of a payload.
-- Assumes nothing.
use mathlib.Core.Path.{◌≡◌, refl, sym, ap, ap₂, ◌∙◌}
use mathlib.Core.Bool.{Bool, true, false}
use mathlib.Core.List.{List, [], ◌∷◌, ◌++◌}
use Prim.Native.Nat.{ℕ, zero, suc, ◌+◌, ◌-◌, ◌*◌, ◌/◌, ◌%◌, ◌^◌, ◌≤◌, ◌<◌}
use native.Mathlib.Nat.{zero-add, suc-add, div-one, mod-one, pow-suc, lt_of_lt_of_le, one-mul}
use native.Mathlib.Numerals.{one-add}
use native.Mathlib.Omega.{arith}
use lib.Arith.{mod-mul, lt-one}
use lib.Dec.{lit<}
use lib.Pow.{pow_pos, pow_mono, shr-shr, shl_exact}
use lib.ListN.{length, take, drop, replicate, length-append, length-take}
use lib.Seq.{drop-nil, drop-append-add}
use Rattle.bits.specs.Bits.{val, bit_of, low, num, bits_of}

-- a number below 2 is the bit that it stands for
pub val_bit : (x : ℕ) → x < 2 → val (bit_of x) ≡ x
val_bit zero h = refl
val_bit (suc zero) h = refl
val_bit (suc (suc x)) h = absurd (omega arith)

-- so the lowest bit of a number is it modulo 2
pub val_mod : (x : ℕ) → val (bit_of (x % 2)) ≡ x % 2
val_mod x = val_bit (x % 2) (omega arith)

-- a bit is at most 1
pub val_le : (b : Bool) → val b ≤ 1
val_le false = omega arith
val_le true = omega arith

-- ---- the low bits of a number

-- there are as many as were asked for
pub length-low : (k n : ℕ) → length (low k n) ≡ k
unfolding low
length-low zero n = refl
length-low (suc k) n = ap suc (length-low k (n / 2))

-- without the i lowest, they are those of the number shifted right by i
pub drop-low : (i j n : ℕ) → drop i (low (i + j) n) ≡ low j (n / 2 ^ i)
unfolding low
drop-low zero j n = rw (zero-add, div-one)
drop-low (suc i) j n = rw suc-add (drop-low i j (n / 2) ∙ rw (shr-shr n 1 i, one-add))

-- the i lowest of more low bits
pub take-low : (i j n : ℕ) → take i (low (i + j) n) ≡ low i n
unfolding low
take-low zero j n = refl
take-low (suc i) j n = rw suc-add (ap (λ (l : List Bool). bit_of (n % 2) ∷ l) (take-low i j (n / 2)))

-- the i lowest, and j above them
pub low-add : (i j n : ℕ) → low (i + j) n ≡ low i n ++ low j (n / 2 ^ i)
unfolding low
low-add zero j n = rw (zero-add, div-one)
low-add (suc i) j n =
    rw suc-add (ap (λ (l : List Bool). bit_of (n % 2) ∷ l) (low-add i j (n / 2) ∙ rw (shr-shr n 1 i, one-add)))

-- a number of j bits has zeros above them
pub low-shifted : (j i x : ℕ) → x < 2 ^ j → low (j + i) x ≡ low j x ++ low i 0
unfolding low
low-shifted zero i x h = rw (zero-add, lt-one h)
low-shifted (suc j) i x h =
    rw suc-add (ap (λ (l : List Bool). bit_of (x % 2) ∷ l) (low-shifted j i (x / 2) (omega arith)))

-- the low bits of a number whose w bits are all ones
pub low_ones : (c w : ℕ) → c ≤ w → low c (2 ^ w - 1) ≡ replicate c true
unfolding low
low_ones zero w h = refl
low_ones (suc c) zero h = absurd (omega arith)
low_ones (suc c) (suc w) h =
    let m : (2 ^ suc w - 1) % 2 ≡ 1 = omega (arith, pow_pos w) in
    let d : (2 ^ suc w - 1) / 2 ≡ 2 ^ w - 1 = omega (arith, pow_pos w) in
    rw (m, d) (ap (λ (l : List Bool). true ∷ l) (low_ones c w (omega arith)))

-- the one low bit of 0
pub low-zero : low 1 0 ≡ false ∷ []
unfolding low
low-zero = refl

-- ---- the number of some bits

-- joined bits: the later ones count above the earlier
pub num_append : (a b : List Bool) → num (a ++ b) ≡ num a + num b * 2 ^ length a
unfolding num
num_append [] b = omega arith
num_append (x ∷ a) b = rw (pow-suc 2 (length a)) (omega (arith, num_append a b))

-- it is below the power of their count
pub num_lt : (a : List Bool) → num a < 2 ^ length a
unfolding num
num_lt [] = omega arith
num_lt (false ∷ a) = omega (arith, num_lt a, pow-suc 2 (length a))
num_lt (true ∷ a) = omega (arith, num_lt a, pow-suc 2 (length a))

-- the number of the first k bits is below 2 ^ k
pub num-take_lt : (k : ℕ) (a : List Bool) → num (take k a) < 2 ^ k
num-take_lt k a = lt_of_lt_of_le (num_lt (take k a)) (pow_mono (omega (arith, length-take k a)))

-- the k low bits of n make n modulo 2 ^ k
pub num-low : (k n : ℕ) → num (low k n) ≡ n % 2 ^ k
unfolding num low
num-low zero n = sym (mod-one n)
num-low (suc k) n =
    rw (val_mod, num-low k (n / 2), pow-suc 2 k, mod-mul n (pow_pos k) (lit< tt)) (omega arith)

-- the low bits of the number are the bits again
pub low-num : (a : List Bool) → low (length a) (num a) ≡ a
unfolding num low
low-num [] = refl
low-num (false ∷ a) =
    let m : (0 + 2 * num a) % 2 ≡ 0 = omega arith in
    let q : (0 + 2 * num a) / 2 ≡ num a = omega arith in
    rw (m, q, low-num a)
low-num (true ∷ a) =
    let m : (1 + 2 * num a) % 2 ≡ 1 = omega arith in
    let q : (1 + 2 * num a) / 2 ≡ num a = omega arith in
    rw (m, q, low-num a)

-- low bits depend on no others
pub low_mod : (k n : ℕ) → low k (n % 2 ^ k) ≡ low k n
low_mod k n =
    ap (low k) (sym (num-low k n)) ∙ ap (λ (m : ℕ). low m (num (low k n))) (sym (length-low k n))
    ∙ low-num (low k n)

-- a one shifted left by m loses nothing in w bits
pub shl_one : (m w : ℕ) → m < w → 1 * 2 ^ m % 2 ^ w ≡ 2 ^ m
shl_one m w h = shl_exact 1 m w (lit< tt) (omega arith) ∙ one-mul (2 ^ m)

-- m bits of v above k bits of c fit in w bits
pub join_lt : (k m c v w : ℕ) → k + m ≤ w → c % 2 ^ k + v % 2 ^ m * 2 ^ k < 2 ^ w
join_lt k m c v w h =
    let l = low k c ++ low m v in
    let e : length l ≡ k + m =
    length-append (low k c) (low m v) ∙ ap₂ (λ (x y : ℕ). x + y) (length-low k c) (length-low m v) in
    let n : num l ≡ c % 2 ^ k + v % 2 ^ m * 2 ^ k =
    num_append (low k c) (low m v)
    ∙ ap₂ (λ (x y : ℕ). x + y) (num-low k c)
    (ap₂ (λ (x y : ℕ). x * 2 ^ y) (num-low m v) (length-low k c)) in
    rw n at (lt_of_lt_of_le (num_lt l) (pow_mono {i = length l} {j = w} (omega arith)))

-- ---- the bits of a payload

-- eight for each byte
pub length-bits : (s : List ℕ) → length (bits_of s) ≡ 8 * length s
unfolding bits_of
length-bits [] = refl
length-bits (b ∷ s) = omega (arith, length-append (low 8 b) (bits_of s), length-low 8 b, length-bits s)

-- without its first i bytes
pub drop-bytes : (s : List ℕ) (i : ℕ) → drop (8 * i) (bits_of s) ≡ bits_of (drop i s)
unfolding bits_of
drop-bytes s zero = refl
drop-bytes [] (suc i) = drop-nil (8 * suc i)
drop-bytes (b ∷ s) (suc i) =
    let e : 8 * suc i ≡ length (low 8 b) + 8 * i = omega (arith, length-low 8 b) in
    rw e (drop-append-add (low 8 b) (bits_of s) (8 * i) ∙ drop-bytes s i)
