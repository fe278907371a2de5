-- Literal bits gathered in a number, and laid four bytes at a time: what stands in the first bytes,
-- then what is held, then what is to come, are the literal bits of all samples.
-- Assumes nothing.
use mathlib.Core.Path.{◌≡◌, refl, sym, ap, ap₂, subst, ◌∙◌}
use mathlib.Core.Bool.{Bool}
use mathlib.Core.List.{List, [], ◌∷◌, ◌++◌, map, append_assoc, append-nil}
use Prim.Native.Nat.{ℕ, zero, suc, ◌+◌, ◌-◌, ◌*◌, ◌/◌, ◌%◌, ◌^◌, ◌≤◌, ◌<◌}
use native.Mathlib.Nat.{suc-mul, zero-mul, mul-le-mul_left, mul_comm}
use native.Mathlib.Numerals.{add-one}
use native.Mathlib.Omega.{arith}
use lib.Arith.{digits_lt}
use lib.IntN.{ℤ, pos}
use lib.ListN.{length, take, drop, get_or, length-append, length-drop, drop_of_length-le}
use lib.Pow.{pow-add, pow_pos, pow_mono, shl_exact, high, shr_lt}
use lib.Pow as pow
use borrow.Rule.Slice.PartMut.{put_mid}
use lib.Seq.{take_all, drop-cons, take_at, drop_at, length-take-le, drop-drop}
use Rattle.overlay.specs.Overlay.{overlay}
use Rattle.overlay.proofs.OverlayLaws.{overlay_first}
use Rattle.little_endian.specs.LittleEndian.{little_endian}
use Rattle.bits.specs.Bits.{low, bits_of}
use Rattle.bits.specs.Laid.{bytes_holding, put}
use Rattle.bits.proofs.BitLaws.{low-add, low_mod}
use Rattle.bits.proofs.LaidLaws.{Bytes, bytes_take, low-none, bits_append, holding_bytes, put_nil, put-start}
use Rattle.int32_sample.specs.Sample.{low_bits, above}
use Rattle.int32.specs.Deconstruct.{literal_of}

-- ---- the bits of numbers

-- a number above k bits
pub low-join : (k j held v : ℕ) → held < 2 ^ k → low (k + j) (held + v * 2 ^ k) ≡ low k held ++ low j v
low-join k j held v h =
    let e : held + v * 2 ^ k ≡ v * 2 ^ k + held = omega arith in
    rw e (low-add k j (v * 2 ^ k + held)
    ∙ ap₂ (λ (a b : List Bool). a ++ b) (sym (low_mod k (v * 2 ^ k + held)) ∙ ap (low k) (pow.low v k h))
    (ap (low j) (high v k h)))

-- the bytes of a number have its low bits
bits_little : (c n : ℕ) → bits_of (little_endian c n) ≡ low (8 * c) n
unfolding bits_of little_endian
bits_little zero n = sym (low-none n)
bits_little (suc c) n =
    let e : 8 * suc c ≡ 8 + 8 * c = omega arith in
    rw e (ap₂ (λ (a b : List Bool). a ++ b) (low_mod 8 n) (bits_little c (n / 256))
    ∙ sym (low-add 8 (8 * c) n))

four-bits : (n : ℕ) → bits_of (little_endian 4 (n % 4294967296)) ≡ low 32 n
four-bits n = bits_little 4 (n % 4294967296) ∙ low_mod 32 n

four-length : (n : ℕ) → length (little_endian 4 n) ≡ 4
unfolding little_endian
four-length n = refl

-- no bits of any sample leave the buffer as it is
no_bits_lem : (xs : List ℤ) → literal_of 0 xs ≡ []
unfolding literal_of low
no_bits_lem [] = refl
no_bits_lem (x ∷ xs) = no_bits_lem xs

pub nothing-laid : (buf : List ℕ) (xs : List ℤ) → buf ≡ overlay buf 0 (bytes_holding (literal_of 0 xs))
nothing-laid buf xs =
    sym (ap (λ (w : List Bool). overlay buf 0 (bytes_holding w)) (no_bits_lem xs) ∙ sym (put-start buf [])
    ∙ put_nil buf 0)

-- a number above the bits that are held, as the code adds it
pub record Joins (held v filled count : ℕ) : Type 0 where
  pub exact : v * 2 ^ filled % 18446744073709551616 ≡ v * 2 ^ filled
  pub fits : held + v * 2 ^ filled < 4611686018427387904

pub joins : (held v filled count : ℕ) → held < 2 ^ filled → v < 2 ^ count → filled + count ≤ 62
    → Joins held v filled count
joins held v filled count h l w =
    let lt : v * 2 ^ filled + held < 2 ^ count * 2 ^ filled = digits_lt l h in
    let p : 2 ^ count * 2 ^ filled ≡ 2 ^ (count + filled) = sym (pow-add 2 count filled) in
    let m : 2 ^ (count + filled) ≤ 4611686018427387904 =
    pow_mono {i = count + filled} {j = 62} (omega arith) in
    record { exact = shl_exact count filled 64 l (omega arith); fits = omega (arith, lt, p, m) }

-- the rest of a buffer that was lent and given back
pub given_back : (buf part w : List ℕ) (at : ℕ) → at ≤ length buf → part ≡ w
    → put_mid at (length buf - at) buf part ≡ take at buf ++ w
given_back buf part w at h e =
    let n = length buf - at in
    let d : drop n (drop at buf) ≡ [] = drop_of_length-le (drop at buf) {i = n}
    (omega (arith, length-drop at buf)) in
    rw d (ap (λ (x : List ℕ). take at buf ++ x) (append-nil part ∙ e))

pub rest-whole : (buf : List ℕ) (at : ℕ) → take (length buf - at) (drop at buf) ≡ drop at buf
rest-whole buf at = take_all (length buf - at) (drop at buf) (omega (arith, length-drop at buf))

-- ---- the loop

module _ (samples : List ℤ) (shift count : ℕ) (before : List ℕ) where
  -- the literal bits from the sample i on
  abbrev ahead : ℕ → List Bool
  ahead i = literal_of count (map (above shift) (drop i samples))

  -- the first `at` bytes are laid, and the `filled` bits of `held` come next
  pub record Laying (out : List ℕ) (held filled at i : ℕ) : Type 0 where
    pub here : i ≤ length samples
    pub small : held < 2 ^ filled
    pub place : 8 * at + filled ≡ i * count
    pub same_length : length out ≡ length before
    pub behind : drop at out ≡ drop at before
    pub bits : (bits_of (take at out) ++ low filled held) ++ ahead i
        ≡ literal_of count (map (above shift) samples)

  pub laying_none : Laying before 0 0 0 0
  unfolding bits_of low
  laying_none = record {
    here = omega arith;
    small = pow_pos 0;
    place = sym (zero-mul count);
    same_length = refl;
    behind = refl;
    bits = refl;
  }

  -- the bits so far are few, so that there is room for them
  pub laying_room : (out : List ℕ) (held filled at i : ℕ) → count ≤ 31 → Laying out held filled at i
      → 8 * at + filled ≤ i * 31
  laying_room out held filled at i h y = rw y.place (mul-le-mul_left i h)

  -- the bits of one more sample are held
  pub laying_more : (out : List ℕ) (held filled at i v : ℕ) → i < length samples
      → v ≡ low_bits count (above shift (get_or samples i (pos 0))) → v < 2 ^ count
      → Laying out held filled at i → Laying out (held + v * 2 ^ filled) (filled + count) at (i + 1)
  unfolding literal_of
  laying_more out held filled at i v h e l y =
      let x = above shift (get_or samples i (pos 0)) in
      let front = bits_of (take at out) in
      let next : low count (low_bits count x) ++ ahead (suc i) ≡ ahead i =
      ap (λ (s : List ℤ). literal_of count (map (above shift) s)) (sym (drop-cons samples i (pos 0) h)) in
      let lt : v * 2 ^ filled + held < 2 ^ count * 2 ^ filled = digits_lt l y.small in
      let p : 2 ^ (filled + count) ≡ 2 ^ count * 2 ^ filled =
      pow-add 2 filled count ∙ mul_comm (2 ^ filled) (2 ^ count) in
      let both : low (filled + count) (held + v * 2 ^ filled)
      ≡ low filled held ++ low count (low_bits count x) =
      low-join filled count held v y.small ∙ ap (λ (n : ℕ). low filled held ++ low count n) e in
      rw (add-one i) (record {
        here = h;
        small = rw p (omega (arith, lt));
        place = omega (arith, y.place, suc-mul i count);
        same_length = y.same_length;
        behind = y.behind;
        bits =
            ap (λ (w : List Bool). (front ++ w) ++ ahead (suc i)) both
            ∙ ap (λ (w : List Bool). w ++ ahead (suc i))
            (sym (append_assoc front (low filled held) (low count (low_bits count x))))
            ∙ append_assoc (front ++ low filled held) (low count (low_bits count x)) (ahead (suc i))
            ∙ ap (λ (w : List Bool). (front ++ low filled held) ++ w) next ∙ y.bits;
      })

  -- 32 of the bits that are held are laid in four bytes
  pub laying_laid : (out after : List ℕ) (held filled at i : ℕ) → 32 ≤ filled → at + 4 ≤ length out
      → after ≡ overlay out at (little_endian 4 (held % 4294967296))
      → Laying out held filled at i → Laying after (held / 4294967296) (filled - 32) (at + 4) i
  unfolding overlay
  laying_laid out after held filled at i f h e y =
      let four = little_endian 4 (held % 4294967296) in
      let front = take at out ++ four in
      let l : length front ≡ at + 4 =
      omega (
        arith,
        length-append (take at out) four,
        length-take-le at out (omega arith),
        four-length (held % 4294967296),
      ) in
      let q : at + length four ≡ at + 4 = ap (λ (n : ℕ). at + n) (four-length (held % 4294967296)) in
      let a : after ≡ front ++ drop (at + 4) out = e ∙ ap (λ (n : ℕ). front ++ drop n out) q in
      let t : take (at + 4) after ≡ front = ap (take (at + 4)) a ∙ take_at front (drop (at + 4) out)
      (at + 4) l in
      let d : drop (at + 4) after ≡ drop (at + 4) out = ap (drop (at + 4)) a ∙ drop_at front
      (drop (at + 4) out) (at + 4) l in
      let k : filled ≡ 32 + (filled - 32) = omega arith in
      let s : held < 2 ^ (filled - 32 + 32) = subst (λ (n : ℕ). held < 2 ^ n)
      (let z : filled ≡ filled - 32 + 32 = omega arith in z) y.small in
      let high32 = low (filled - 32) (held / 4294967296) in
      let w : low filled held ≡ low 32 held ++ high32 = ap (λ (n : ℕ). low n held) k ∙ low-add 32
      (filled - 32) held in
      let b : bits_of (take (at + 4) after) ++ high32 ≡ bits_of (take at out) ++ low filled held =
      ap (λ (r : List ℕ). bits_of r ++ high32) t ∙ ap (λ (r : List Bool). r ++ high32)
      (bits_append (take at out) four ∙ ap (λ (r : List Bool). bits_of (take at out) ++ r) (four-bits held))
      ∙ append_assoc (bits_of (take at out)) (low 32 held) high32
      ∙ ap (λ (r : List Bool). bits_of (take at out) ++ r) (sym w) in
      record {
        here = y.here;
        small = shr_lt (filled - 32) 32 s;
        place = omega (arith, y.place);
        same_length = ap length a
            ∙ omega (
              arith,
              length-append front (drop (at + 4) out),
              length-drop (at + 4) out,
              l,
              y.same_length,
            );
        behind = d ∙ sym (drop-drop 4 at out) ∙ ap (drop 4) y.behind ∙ drop-drop 4 at before;
        bits = ap (λ (r : List Bool). r ++ ahead i) b ∙ y.bits;
      }

  -- the bits that are left are laid after the bytes
  pub laying_all : (out : List ℕ) (held filled at i : ℕ) → length samples ≤ i → Bytes out → at ≤ length out
      → Laying out held filled at i
      → take at out ++ put (drop at out) 0 (low filled held)
      ≡ overlay before 0 (bytes_holding (literal_of count (map (above shift) samples)))
  unfolding literal_of
  laying_all out held filled at i h g m y =
      let front = take at out in
      let w = low filled held in
      let whole : bits_of front ++ w ≡ literal_of count (map (above shift) samples) =
      sym (append-nil (bits_of front ++ w))
      ∙ ap (λ (s : List ℤ). (bits_of front ++ w) ++ literal_of count (map (above shift) s))
      (sym (drop_of_length-le samples {i = i} h)) ∙ y.bits in
      let held_bytes = bytes_holding w in
      let n = length held_bytes in
      let b : bytes_holding (literal_of count (map (above shift) samples)) ≡ front ++ held_bytes =
      ap bytes_holding (sym whole) ∙ holding_bytes front w (bytes_take out at g) in
      let l : length (front ++ held_bytes) ≡ at + n = length-append front held_bytes ∙ ap (λ (x : ℕ). x + n)
      (length-take-le at out m) in
      ap (λ (r : List ℕ). front ++ r)
      (put-start (drop at out) w ∙ overlay_first (drop at out) held_bytes
      ∙ ap (λ (r : List ℕ). held_bytes ++ drop n r) y.behind
      ∙ ap (λ (r : List ℕ). held_bytes ++ r) (drop-drop n at before))
      ∙ sym (append_assoc front held_bytes (drop (at + n) before))
      ∙ ap (λ (x : ℕ). (front ++ held_bytes) ++ drop x before) (sym l)
      ∙ sym (ap (overlay before 0) b ∙ overlay_first before (front ++ held_bytes))
