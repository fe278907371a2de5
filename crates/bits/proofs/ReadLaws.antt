-- Laws of the reading definitions: which answer a reader gives, and what stands at a place inside
-- the payload.
-- Assumes nothing.
use mathlib.Core.Path.{◌≡◌, refl, sym, ap, ◌∙◌}
use mathlib.Core.Bool.{Bool, true, false, cond}
use mathlib.Core.List.{List, ◌∷◌, ◌++◌}
use Prim.Native.Nat.{ℕ, suc, ◌+◌, ◌-◌, ◌*◌, ◌/◌, ◌%◌, ◌^◌, ◌≤◌, ◌<◌}
use native.Mathlib.Nat.{lt_of_lt_of_le}
use native.Mathlib.Omega.{arith}
use borrow.Author.Tests.{lt-ltb, le-ltb, le-leb, lt-leb, leb-true, leb-false, ltb-false}
use lib.Dec.{ltb, leb}
use lib.ListN.{length, take, drop, get_or}
use lib.Pow.{pow_mono}
use lib.Seq.{drop-drop, drop-cons, drop-append-le}
use Rattle.bits.specs.Bits.{bit_of, low, num, bits_of, ones}
use Rattle.bits.specs.Fields.{get_bits, unary}
use Rattle.std.specs.Prelude.{Option, Some, None}
use Rattle.bits.proofs.BitLaws.{val_mod, length-low, drop-low, drop-bytes, num-take_lt}

-- two fields that are the same have the same value and the same place after it
pub same-field : {v q w n : ℕ} → ◌≡◌ {A = Option (ℕ × ℕ)} (Some (v, q)) (Some (w, n)) → (v ≡ w) × (q ≡ n)
same-field {v} {q} {w} {n} e =
    let z : ◌≡◌ {A = ℕ × ℕ} (v, q) (w, n) = cc in
    (ap (λ (x : ℕ × ℕ). x.0) z, ap (λ (x : ℕ × ℕ). x.1) z)

-- what an accepted answer tells: the bits are there, the value is theirs, the place is behind them
pub got : (bits : List Bool) (p k v q : ℕ) → get_bits bits p k ≡ Some (v, q)
    → (k ≤ length (drop p bits)) × (v ≡ num (take k (drop p bits))) × (q ≡ p + k)
unfolding get_bits
got bits p k v q e = go (leb k (length (drop p bits))) refl e
  where
    go : (t : Bool) → leb k (length (drop p bits)) ≡ t → cond {A = Option (ℕ × ℕ)} t (Some (num (take k (drop p bits)), p + k)) None ≡ Some (v, q)
        → (k ≤ length (drop p bits)) × (v ≡ num (take k (drop p bits))) × (q ≡ p + k)
    go true h e = let s = same-field e in (leb-true k (length (drop p bits)) h, sym s.0, sym s.1)
    go false h e = let z : ◌≡◌ {A = ℕ} 0 1 = cc in absurd (omega arith)

-- enough bits are left
pub bits-yes : (bits : List Bool) (p k : ℕ) → k ≤ length (drop p bits) → get_bits bits p k ≡ Some (num (take k (drop p bits)), p + k)
unfolding get_bits
bits-yes bits p k h = rw (le-leb k (length (drop p bits)) h)

-- a bit is missing
pub bits_no : (bits : List Bool) (p k : ℕ) → length (drop p bits) < k → get_bits bits p k ≡ None
unfolding get_bits
bits_no bits p k h = rw (lt-leb k (length (drop p bits)) h)

-- that is the only reason to refuse
pub bits-missing : (bits : List Bool) (p k : ℕ) → get_bits bits p k ≡ None → length (drop p bits) < k
unfolding get_bits
bits-missing bits p k e = go (leb k (length (drop p bits))) refl e
  where
    go : (t : Bool) → leb k (length (drop p bits)) ≡ t → cond {A = Option (ℕ × ℕ)} t (Some (num (take k (drop p bits)), p + k)) None ≡ None
        → length (drop p bits) < k
    go true h e = let z : ◌≡◌ {A = ℕ} 0 1 = cc in absurd (omega arith)
    go false h e = leb-false k (length (drop p bits)) h

-- no bits are read at any place
pub bits_none : (bits : List Bool) (p : ℕ) → get_bits bits p 0 ≡ Some (0, p)
unfolding num
bits_none bits p = bits-yes bits p 0 (omega arith) ∙ ap (λ (q : ℕ). Some (0, q)) (omega arith)

-- the value of at most w bits is below 2 ^ w
pub bits_lt : (bits : List Bool) (p k v q w : ℕ) → get_bits bits p k ≡ Some (v, q) → k ≤ w → v < 2 ^ w
bits_lt bits p k v q w e h = rw (got bits p k v q e).1 (lt_of_lt_of_le (num-take_lt k (drop p bits)) (pow_mono h))

-- a zero follows the ones
pub unary-yes : (bits : List Bool) (p : ℕ) → ones (drop p bits) < length (drop p bits)
    → unary bits p ≡ Some (ones (drop p bits), p + ones (drop p bits) + 1)
unfolding unary
unary-yes bits p h = rw (lt-ltb (ones (drop p bits)) (length (drop p bits)) h)

-- no zero follows
pub unary_no : (bits : List Bool) (p : ℕ) → length (drop p bits) ≤ ones (drop p bits) → unary bits p ≡ None
unfolding unary
unary_no bits p h = rw (le-ltb (ones (drop p bits)) (length (drop p bits)) h)

-- that is the only reason to refuse
pub unary-missing : (bits : List Bool) (p : ℕ) → unary bits p ≡ None → length (drop p bits) ≤ ones (drop p bits)
unfolding unary
unary-missing bits p e = go (ltb (ones (drop p bits)) (length (drop p bits))) refl e
  where
    go : (t : Bool) → ltb (ones (drop p bits)) (length (drop p bits)) ≡ t
        → cond {A = Option (ℕ × ℕ)} t (Some (ones (drop p bits), p + ones (drop p bits) + 1)) None ≡ None → length (drop p bits) ≤ ones (drop p bits)
    go true h e = let z : ◌≡◌ {A = ℕ} 0 1 = cc in absurd (omega arith)
    go false h e = ltb-false (ones (drop p bits)) (length (drop p bits)) h

-- ---- the bit at a place

-- the first of some low bits
low_first : (k n : ℕ) → low (suc k) n ≡ bit_of (n % 2) ∷ low k (n / 2)
unfolding low
low_first k n = refl

-- behind a bit stand those from the next place on
behind : (bits : List Bool) (p : ℕ) (b : Bool) (t : List Bool) → drop p bits ≡ b ∷ t → drop p bits ≡ b ∷ drop (p + 1) bits
behind bits p b t e = e ∙ ap (λ (l : List Bool). b ∷ l) (sym (sym (drop-drop 1 p bits) ∙ ap (drop 1) e))

-- the bit of the payload at p, in its byte, and those from the next place on
pub bit_there : (s : List ℕ) (p : ℕ) → p / 8 < length s
    → drop p (bits_of s) ≡ bit_of (get_or s (p / 8) 0 / 2 ^ (p % 8) % 2) ∷ drop (p + 1) (bits_of s)
unfolding bits_of
bit_there s p h =
    let i = p / 8 in
    let k = p % 8 in
    let b = get_or s i 0 in
    let rest = bits_of (drop (suc i) s) in
    let q : p ≡ 8 * i + k = omega arith in
    let w : 8 ≡ k + suc (7 - k) = omega arith in
    behind (bits_of s) p _ _
    (ap (λ (n : ℕ). drop n (bits_of s)) q ∙ sym (drop-drop k (8 * i) (bits_of s)) ∙ ap (drop k) (drop-bytes s i ∙ ap bits_of (drop-cons s i 0 h))
    ∙ drop-append-le k (low 8 b) rest (omega (arith, length-low 8 b))
    ∙ ap (λ (l : List Bool). l ++ rest) (ap (λ (n : ℕ). drop k (low n b)) w ∙ drop-low k (suc (7 - k)) b ∙ low_first (7 - k) (b / 2 ^ k)))

-- it is read as a field of one bit
pub bit_read_lem : (s : List ℕ) (p : ℕ) → p / 8 < length s → get_bits (bits_of s) p 1 ≡ Some (get_or s (p / 8) 0 / 2 ^ (p % 8) % 2, p + 1)
unfolding num
bit_read_lem s p h =
    let d = bit_there s p h in
    let x = get_or s (p / 8) 0 / 2 ^ (p % 8) in
    bits-yes (bits_of s) p 1 (omega (arith, ap length d)) ∙ ap (λ (v : ℕ). Some (v, p + 1)) (ap (λ (l : List Bool). num (take 1 l)) d ∙ omega (arith, val_mod x))
