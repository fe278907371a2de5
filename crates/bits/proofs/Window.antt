-- Bits that stand at a place as the low bits of a number: a window of up to eight bytes, without
-- the bits before the place.
-- Assumes nothing.
use mathlib.Core.Path.{◌≡◌, refl, sym, ap, ap₂, subst, ◌∙◌}
use mathlib.Core.Bool.{Bool}
use mathlib.Core.List.{List, ◌++◌, append-nil}
use Prim.Native.Nat.{ℕ, ◌+◌, ◌-◌, ◌*◌, ◌/◌, ◌%◌, ◌^◌, ◌≤◌, ◌<◌, min}
use native.Mathlib.Nat.{lt_of_lt_of_le, mod-eq_of_lt}
use native.Mathlib.Omega.{arith}
use lib.Pow.{pow_mono, shr_lt, shl_exact}
use lib.ListN.{length, take, drop, get_or, length-drop, length-take, take-append-drop}
use lib.Seq.{drop-drop, drop-append-le, take-append-le, length-take-le, take-add, drop-cons}
use Rattle.std.proofs.lemmas.List.{take_min}
use Rattle.bits.specs.Bits.{low, num, bits_of}
use Rattle.bits.specs.Fields.{get_bits}
use Rattle.bits.specs.Window.{Window}
use Rattle.std.specs.Prelude.{Some}
use Rattle.bits.proofs.BitLaws.{length-low, length-bits, drop-bytes, drop-low, take-low, num-low, num_lt, num_append, low-num}
use Rattle.bits.proofs.ReadLaws.{bits-yes}
use Rattle.bits.proofs.LaidLaws.{bits_append}

-- n whole bytes from byte i on, without the first k bits
pub window : (s : List ℕ) (i n k w : ℕ) → i + n ≤ length s → k ≤ 8 * n → w ≡ num (bits_of (take n (drop i s)))
    → Window (bits_of s) (8 * i + k) (8 * n - k) (w / 2 ^ k)
window s i n k w h l e =
    let j = 8 * n - k in
    let b = bits_of (take n (drop i s)) in
    let behind = bits_of (drop n (drop i s)) in
    let lt : length (take n (drop i s)) ≡ n = length-take-le n (drop i s) (omega (arith, length-drop i s)) in
    let lb : length b ≡ k + j = omega (arith, length-bits (take n (drop i s))) in
    let q : 8 * i + k + j ≡ 8 * (i + n) = omega arith in
    let d : drop (8 * i + k + j) (bits_of s) ≡ behind = rw q (drop-bytes s (i + n) ∙ ap bits_of (sym (drop-drop n i s))) in
    let f : drop (8 * i) (bits_of s) ≡ b ++ behind = drop-bytes s i ∙ ap bits_of (sym (take-append-drop n (drop i s))) ∙ bits_append (take n (drop i s)) (drop n (drop i s)) in
    let g : b ≡ low (k + j) w = sym (low-num b) ∙ ap₂ low lb (sym e) in
    record {
      small = shr_lt j k (rw e (lt_of_lt_of_le (num_lt b) (pow_mono {i = length b} {j = j + k} (omega arith))));
      room = omega (arith, length-bits s);
      stands =
          sym (drop-drop k (8 * i) (bits_of s)) ∙ ap (drop k) f ∙ drop-append-le k b behind (omega arith)
          ∙ ap₂ (λ (x y : List Bool). x ++ y) (ap (drop k) g ∙ drop-low k j w) (sym d);
    }

-- at most j bits are read out of a window of j
pub window-bits : (bits : List Bool) (p j x m : ℕ) → Window bits p j x → m ≤ j → get_bits bits p m ≡ Some (x % 2 ^ m, p + m)
window-bits bits p j x m v h =
    let w : j ≡ m + (j - m) = omega arith in
    let t : take m (drop p bits) ≡ low m x =
    ap (take m) v.stands ∙ take-append-le m (low j x) (drop (p + j) bits) (omega (arith, length-low j x))
    ∙ ap (λ (n : ℕ). take m (low n x)) w ∙ take-low m (j - m) x in
    bits-yes bits p m (omega (arith, length-drop p bits, v.room)) ∙ ap (λ (n : ℕ). Some (n, p + m)) (ap num t ∙ num-low m x)

-- ---- bytes gathered into one number

-- the number of a + b bytes from that of the first a and that of the b behind them
pub gather : (s : List ℕ) (i a b : ℕ) → i + a ≤ length s
    → num (bits_of (take (a + b) (drop i s))) ≡ num (bits_of (take a (drop i s))) + num (bits_of (take b (drop (i + a) s))) * 2 ^ (8 * a)
gather s i a b h =
    let x = take a (drop i s) in
    let l : length (bits_of x) ≡ 8 * a = length-bits x ∙ ap (λ (n : ℕ). 8 * n) (length-take-le a (drop i s) (omega (arith, length-drop i s))) in
    ap (λ (z : List ℕ). num (bits_of z)) (take-add a b (drop i s) ∙ ap (λ (z : List ℕ). x ++ take b z) (drop-drop a i s))
    ∙ ap num (bits_append x (take b (drop (i + a) s))) ∙ num_append (bits_of x) (bits_of (take b (drop (i + a) s)))
    ∙ ap (λ (n : ℕ). num (bits_of x) + num (bits_of (take b (drop (i + a) s))) * 2 ^ n) l

-- one byte is its own number
one_byte : (s : List ℕ) (i : ℕ) → i < length s → get_or s i 0 < 256 → num (bits_of (take 1 (drop i s))) ≡ get_or s i 0
unfolding bits_of
one_byte s i h l =
    ap (λ (z : List ℕ). num (bits_of (take 1 z))) (drop-cons s i 0 h) ∙ ap num (append-nil (low 8 (get_or s i 0))) ∙ num-low 8 (get_or s i 0) ∙ mod-eq_of_lt l

-- a bytes stay below 2 ^ (8 a)
bytes_lt : (x : List ℕ) (a : ℕ) → num (bits_of (take a x)) < 2 ^ (8 * a)
bytes_lt x a =
    lt_of_lt_of_le (num_lt (bits_of (take a x)))
    (pow_mono {i = length (bits_of (take a x))} {j = 8 * a} (omega (arith, length-bits (take a x), length-take a x)))

-- n whole bytes from the byte of p on are a window at p
pub place-window : (s : List ℕ) (p n w : ℕ) → p / 8 + n ≤ length s → 0 < n → w ≡ num (bits_of (take n (drop (p / 8) s)))
    → Window (bits_of s) p (8 * n - p % 8) (w / 2 ^ (p % 8))
place-window s p n w h l e =
    let q : 8 * (p / 8) + p % 8 ≡ p = omega arith in
    subst (λ (m : ℕ). Window (bits_of s) m (8 * n - p % 8) (w / 2 ^ (p % 8))) q (window s (p / 8) n (p % 8) w h (omega arith) e)

-- so is the byte of p alone
pub byte-window : (s : List ℕ) (p : ℕ) → p / 8 < length s → get_or s (p / 8) 0 < 256 → Window (bits_of s) p (8 * 1 - p % 8) (get_or s (p / 8) 0 / 2 ^ (p % 8))
byte-window s p h l = place-window s p 1 (get_or s (p / 8) 0) (omega arith) (omega arith) (sym (one_byte s (p / 8) h l))

-- and up to eight bytes, fewer at the end
pub tail-window : (s : List ℕ) (p w : ℕ) → p / 8 < length s → w ≡ num (bits_of (take 8 (drop (p / 8) s)))
    → Window (bits_of s) p (8 * min 8 (length s - p / 8) - p % 8) (w / 2 ^ (p % 8))
tail-window s p w h e =
    let i = p / 8 in
    let n = min 8 (length s - i) in
    place-window s p n w (omega arith) (omega arith)
    (e ∙ ap (λ (l : List ℕ). num (bits_of l)) (sym (take_min 8 (drop i s))) ∙ ap (λ (m : ℕ). num (bits_of (take (min 8 m) (drop i s)))) (length-drop i s))

-- the number w of j bytes and the byte b behind them, joined in 64 bits
pub record More (s : List ℕ) (i j w b : ℕ) : Type 0 where
  pub exact : b * 2 ^ (8 * j) % 2 ^ 64 ≡ b * 2 ^ (8 * j)
  pub small : w + b * 2 ^ (8 * j) < 2 ^ 64
  pub same : w + b * 2 ^ (8 * j) ≡ num (bits_of (take (j + 1) (drop i s)))

-- so it is while there are fewer than eight
pub more : (s : List ℕ) (i j w b : ℕ) → i + j < length s → j < 8 → w ≡ num (bits_of (take j (drop i s))) → b ≡ get_or s (i + j) 0 → b < 256 → More s i j w b
more s i j w b h l e f lb =
    let g : w + b * 2 ^ (8 * j) ≡ num (bits_of (take (j + 1) (drop i s))) =
    ap₂ (λ (x y : ℕ). x + y * 2 ^ (8 * j)) e (f ∙ sym (one_byte s (i + j) h (omega arith))) ∙ sym (gather s i j 1 (omega arith)) in
    record {
      exact = shl_exact 8 (8 * j) 64 lb (omega arith);
      small = rw g (lt_of_lt_of_le (bytes_lt (drop i s) (j + 1)) (pow_mono {i = 8 * (j + 1)} {j = 64} (omega arith)));
      same = g;
    }

-- no bytes make 0
pub nothing : (l : List ℕ) → 0 ≡ num (bits_of (take 0 l))
unfolding num bits_of
nothing l = refl
