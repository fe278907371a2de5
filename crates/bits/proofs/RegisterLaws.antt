-- Windows cut, shifted, joined and moved on.
-- Assumes nothing.
use mathlib.Core.Path.{◌≡◌, sym, ap, ap₂, subst, ◌∙◌}
use mathlib.Core.Bool.{Bool}
use mathlib.Core.List.{List, ◌++◌, append_assoc}
use Prim.Native.Nat.{ℕ, ◌+◌, ◌-◌, ◌*◌, ◌/◌, ◌%◌, ◌^◌, ◌≤◌, ◌<◌}
use native.Mathlib.Nat.{mod-eq_of_lt, mod-lt, mul-mod_left}
use native.Mathlib.Omega.{arith}
use lib.ListN.{length, take, drop, length-append}
use lib.Pow.{pow_pos, shr_lt, shl-shr, mod-pow-add}
use lib.Seq.{drop-drop, drop-append-le}
use Rattle.bits.specs.Bits.{low, num, bits_of}
use Rattle.bits.specs.Window.{Window}
use Rattle.bits.proofs.BitLaws.{length-low, drop-low, low-add, low_mod, num-low, num_append, low-num, join_lt}
use Rattle.bits.proofs.Window.{place-window}

-- the bits of a window behind its first i
pub window_shift : (bits : List Bool) (p j x i : ℕ) → Window bits p j x → i ≤ j → Window bits (p + i) (j - i) (x / 2 ^ i)
window_shift bits p j x i v h =
    let n = j - i in
    let w : j ≡ i + n = omega arith in
    let m : j ≡ n + i = omega arith in
    let q : p + i + n ≡ p + j = omega arith in
    record {
      small = shr_lt n i (subst (λ (k : ℕ). x < 2 ^ k) m v.small);
      room = omega (arith, v.room);
      stands =
          sym (drop-drop i p bits) ∙ ap (drop i) v.stands ∙ drop-append-le i (low j x) (drop (p + j) bits) (omega (arith, length-low j x))
          ∙ ap₂ (λ (a b : List Bool). a ++ b) (ap (λ (k : ℕ). drop i (low k x)) w ∙ drop-low i n x) (ap (λ (k : ℕ). drop k bits) (sym q));
    }

-- the first i bits of a window
pub window-cut : (bits : List Bool) (p j x i : ℕ) → Window bits p j x → i ≤ j → Window bits p i (x % 2 ^ i)
window-cut bits p j x i v h =
    let n = j - i in
    let w : j ≡ i + n = omega arith in
    let q : p + i + n ≡ p + j = omega arith in
    let s = window_shift bits p j x i v h in
    record {
      small = mod-lt x (pow_pos i);
      room = omega (arith, v.room);
      stands =
          v.stands ∙ ap (λ (a : List Bool). a ++ drop (p + j) bits) (ap (λ (k : ℕ). low k x) w ∙ low-add i n x)
          ∙ append_assoc (low i x) (low n (x / 2 ^ i)) (drop (p + j) bits)
          ∙ ap₂ (λ (a b : List Bool). a ++ b) (sym (low_mod i x)) (ap (λ (k : ℕ). low n (x / 2 ^ i) ++ drop k bits) (sym q) ∙ sym s.stands);
    }

-- the bits of two numbers, one above the other
low-joined : (n u x y : ℕ) → x < 2 ^ n → y < 2 ^ u → low (n + u) (x + y * 2 ^ n) ≡ low n x ++ low u y
low-joined n u x y h g =
    let a = low n x ++ low u y in
    let l : length a ≡ n + u = length-append (low n x) (low u y) ∙ ap₂ (λ (b c : ℕ). b + c) (length-low n x) (length-low u y) in
    let m : num a ≡ x + y * 2 ^ n =
    num_append (low n x) (low u y)
    ∙ ap₂ (λ (b c : ℕ). b + c) (num-low n x ∙ mod-eq_of_lt h) (ap₂ (λ (b c : ℕ). b * 2 ^ c) (num-low u y ∙ mod-eq_of_lt g) (length-low n x)) in
    sym (ap₂ low l m) ∙ low-num a

-- two windows, the second behind the first
pub window-join : (bits : List Bool) (p n u x y : ℕ) → Window bits p n x → Window bits (p + n) u y → Window bits p (n + u) (x + y * 2 ^ n)
window-join bits p n u x y v t =
    let q : p + n + u ≡ p + (n + u) = omega arith in
    let f : x % 2 ^ n + y % 2 ^ u * 2 ^ n ≡ x + y * 2 ^ n = ap₂ (λ (b c : ℕ). b + c * 2 ^ n) (mod-eq_of_lt v.small) (mod-eq_of_lt t.small) in
    record {
      small = rw f at (join_lt n u x y (n + u) (omega arith));
      room = omega (arith, t.room);
      stands =
          v.stands ∙ ap (λ (a : List Bool). low n x ++ a) (t.stands ∙ ap (λ (k : ℕ). low u y ++ drop k bits) q)
          ∙ sym (append_assoc (low n x) (low u y) (drop (p + (n + u)) bits))
          ∙ ap (λ (a : List Bool). a ++ drop (p + (n + u)) bits) (sym (low-joined n u x y v.small t.small));
    }

-- a shift left in 64 bits keeps the bits that have room
shl_cut : (a u k : ℕ) → u + k ≡ 64 → a * 2 ^ k % 2 ^ 64 ≡ a % 2 ^ u * 2 ^ k
shl_cut a u k e =
    let z : a * 2 ^ k % 2 ^ k ≡ 0 = mul-mod_left a (2 ^ k) in
    ap (λ (n : ℕ). a * 2 ^ k % 2 ^ n) (sym e) ∙ mod-pow-add (a * 2 ^ k) u k ∙ rw (shl-shr a k, z) (omega arith)

-- a window of 64 bits moved on by u, where a window of j bits stands behind it
pub window-moved : (bits : List Bool) (p u j w a : ℕ) → Window bits p 64 w → Window bits (p + 64) j a → u ≤ j → u ≤ 64
    → Window bits (p + u) 64 (w / 2 ^ u + a * 2 ^ (64 - u) % 2 ^ 64)
window-moved bits p u j w a v t h l =
    let n = 64 - u in
    let e : n + u ≡ 64 = omega arith in
    let q : p + 64 ≡ p + u + n = omega arith in
    let x = window_shift bits p 64 w u v l in
    let y : Window bits (p + u + n) u (a % 2 ^ u) = subst (λ (k : ℕ). Window bits k u (a % 2 ^ u)) q (window-cut bits (p + 64) j a u t h) in
    let r = window-join bits (p + u) n u (w / 2 ^ u) (a % 2 ^ u) x y in
    rw (shl_cut a u n (omega arith)) (subst (λ (k : ℕ). Window bits (p + u) k (w / 2 ^ u + a % 2 ^ u * 2 ^ n)) e r)

-- eight bytes, eight behind the byte of a place
pub ahead-window : (s : List ℕ) (p w : ℕ) → p / 8 + 16 ≤ length s → w ≡ num (bits_of (take 8 (drop (p / 8 + 8) s)))
    → Window (bits_of s) (p + 64) (64 - p % 8) (w / 2 ^ (p % 8))
ahead-window s p w h e =
    let i : (p + 64) / 8 ≡ p / 8 + 8 = omega arith in
    let k : (p + 64) % 8 ≡ p % 8 = omega arith in
    let v = place-window s (p + 64) 8 w (omega arith) (omega arith) (rw i e) in
    rw k at v

-- eight bytes at a place between two bytes
pub whole-window : (s : List ℕ) (p w : ℕ) → p % 8 ≡ 0 → p / 8 + 8 ≤ length s → w ≡ num (bits_of (take 8 (drop (p / 8) s))) → Window (bits_of s) p 64 w
whole-window s p w k h e =
    let v = place-window s p 8 w (omega arith) (omega arith) e in
    let d : w / 1 ≡ w = omega arith in
    rw d at (rw k at v)
