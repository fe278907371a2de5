-- Lists of bytes, and the numbers that they hold.
-- Assumes nothing.
use mathlib.Core.Path.{◌≡◌, refl, ap₂}
use mathlib.Core.Bool.{true}
use mathlib.Core.List.{List, [], ◌∷◌, ◌++◌}
use Prim.Native.Nat.{ℕ, zero, suc, ◌+◌, ◌*◌, ◌%◌, ◌/◌, ◌≤◌, ◌<◌}
use native.Mathlib.Nat.{mul-le-mul}
use native.Mathlib.Omega.{arith}
use borrow.Author.Tests.{eqb-true}
use lib.Dec.{eqb}
use lib.ListN.{length, take, drop, replicate}
use lib.Seq.{get_or-drop}
use Rattle.answers.proofs.TestLaws.{both}
use Rattle.little_endian.specs.LittleEndian.{little_endian, from_little_endian}
use Rattle.archive.specs.Block.{Bytes, weighted_from}
use Rattle.archive.specs.Faults.{all_zero}

-- ---- what is a byte stays one

pub bytes_take : (n : ℕ) (l : List ℕ) → Bytes l → Bytes (take n l)
bytes_take zero l b i = omega arith
bytes_take (suc n) [] b i = omega arith
bytes_take (suc n) (x ∷ l) b zero = b 0
bytes_take (suc n) (x ∷ l) b (suc i) = bytes_take n l (λ j. b (suc j)) i

pub bytes_drop : (n : ℕ) (l : List ℕ) → Bytes l → Bytes (drop n l)
bytes_drop n l b i = rw (get_or-drop n l i 0) (b (n + i))

pub bytes_append : (a b : List ℕ) → Bytes a → Bytes b → Bytes (a ++ b)
bytes_append [] b p q i = q i
bytes_append (x ∷ a) b p q zero = p 0
bytes_append (x ∷ a) b p q (suc i) = bytes_append a b (λ j. p (suc j)) q i

pub bytes-number : (count number : ℕ) → Bytes (little_endian count number)
unfolding little_endian
bytes-number zero number i = omega arith
bytes-number (suc count) number zero = omega arith
bytes-number (suc count) number (suc i) = bytes-number count (number / 256) i

pub bytes-zeros : (n : ℕ) → Bytes (replicate n 0)
bytes-zeros zero i = omega arith
bytes-zeros (suc n) zero = omega arith
bytes-zeros (suc n) (suc i) = bytes-zeros n i

-- ---- numbers and their bytes

-- bytes come back out of the number that they hold
pub number_bytes-back : (l : List ℕ) → Bytes l → little_endian (length l) (from_little_endian l) ≡ l
unfolding little_endian from_little_endian
number_bytes-back [] b = refl
number_bytes-back (x ∷ l) b =
    let h = b 0 in
    let q : (x + 256 * from_little_endian l) / 256 ≡ from_little_endian l = omega arith in
    let r : (x + 256 * from_little_endian l) % 256 ≡ x = omega arith in
    rw (q, r, number_bytes-back l (λ j. b (suc j)))

-- a number of 16 bits comes back out of its two bytes
pub short_back : (n : ℕ) → n < 65536 → from_little_endian (little_endian 2 n) ≡ n
unfolding little_endian from_little_endian
short_back n h = omega arith

-- zeros are so many of them
pub zeros_are : (l : List ℕ) → all_zero l ≡ true → l ≡ replicate (length l) 0
unfolding all_zero
zeros_are [] e = refl
zeros_are (x ∷ l) e =
    let p = both (eqb x 0) (all_zero l) e in
    ap₂ (λ (y : ℕ) (ys : List ℕ). y ∷ ys) (eqb-true x 0 p.0) (zeros_are l p.1)

pub zeros-all : (n : ℕ) → all_zero (replicate n 0) ≡ true
unfolding all_zero
zeros-all zero = refl
zeros-all (suc n) = zeros-all n

-- a check stays far below 2 to the 32
pub weighted_small : (p : ℕ) (l : List ℕ) → Bytes l → p + length l ≤ 508
    → weighted_from p l ≤ 129540 * length l
unfolding weighted_from
weighted_small p [] b h = omega arith
weighted_small p (x ∷ l) b h =
    let t = weighted_small (p + 1) l (λ j. b (suc j)) (omega arith) in
    let x255 : x ≤ 255 = let y = b 0 in omega arith in
    let p508 : p + 1 ≤ 508 = omega arith in
    let m : (p + 1) * x ≤ 508 * 255 = mul-le-mul p508 x255 in
    omega arith
