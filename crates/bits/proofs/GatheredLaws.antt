-- Bits gathered in a number, laid byte by byte.
-- Assumes nothing.
use mathlib.Core.Path.{◌≡◌, refl, sym, ap, ap₂, ◌∙◌}
use mathlib.Core.Bool.{Bool}
use mathlib.Core.List.{List, [], ◌∷◌, ◌++◌, append_assoc}
use Prim.Native.Nat.{ℕ, zero, suc, ◌+◌, ◌-◌, ◌*◌, ◌/◌, ◌%◌, ◌^◌, ◌≤◌, ◌<◌}
use native.Mathlib.Nat.{mod-eq_of_lt, lt_of_lt_of_le}
use native.Mathlib.Numerals.{add-one}
use native.Mathlib.Decide.{dec_le}
use native.Mathlib.Omega.{arith}
use lib.Pow.{pow_mono, shl_exact}
use lib.ListN.{length, take, drop, get_or, set, length-append, length-set, take-append-drop, drop_of_length-le}
use lib.Seq.{take_all, take-append-le, drop-append-add, drop-drop, take_at, length-take-le, set_split}
use Rattle.bits.specs.Bits.{low, num, bits_of}
use Rattle.bits.specs.Laid.{bytes_of, bytes_holding, put}
use Rattle.overlay.specs.Overlay.{overlay}
use Rattle.overlay.proofs.OverlayLaws.{overlay_first}
use Rattle.bits.proofs.BitLaws.{length-low, length-bits, num_append, num_lt}
use Rattle.bits.proofs.BitLaws.{num-low, take-low, shl_one}
use Rattle.bits.proofs.LaidLaws.{length-bytes}

-- ---- the number of a list of bits, eight at a time

-- what a number's first eight bits and the others are
record Halved (l : List Bool) : Type 0 where
  first : num (take 8 l) ≡ num l % 256
  others : num (drop 8 l) ≡ num l / 256

-- they are the remainder and the quotient by 256
halved : (l : List Bool) → Halved l
unfolding num
halved l = go (dec_le 8 (length l))
  where
    whole : num l ≡ num (take 8 l) + num (drop 8 l) * 2 ^ length (take 8 l)
    whole = ap num (sym (take-append-drop 8 l)) ∙ num_append (take 8 l) (drop 8 l)

    go : Dec (8 ≤ length l) → Halved l
    go (yes h) =
        let e : num l ≡ num (take 8 l) + num (drop 8 l) * 256 =
        whole ∙ ap (λ (n : ℕ). num (take 8 l) + num (drop 8 l) * 2 ^ n) (length-take-le 8 l h) in
        let b : num (take 8 l) < 256 = rw (length-take-le 8 l h) at (num_lt (take 8 l)) in
        record { first = omega arith; others = omega arith }
    go (no h) =
        let b : num l < 2 ^ 8 = lt_of_lt_of_le (num_lt l) (pow_mono {i = length l} {j = 8} (omega arith)) in
        record {
          first = ap num (take_all 8 l (omega arith)) ∙ sym (mod-eq_of_lt b);
          others = ap num (drop_of_length-le l {i = 8} (omega arith)) ∙ omega arith;
        }

-- one byte more
bytes-more : (i : ℕ) (w : List Bool) → bytes_of (suc i) w ≡ bytes_of i w ++ num (take 8 (drop (8 * i) w)) ∷ []
unfolding bytes_of
bytes-more zero w = refl
bytes-more (suc i) w =
    let e : 8 + 8 * i ≡ 8 * suc i = omega arith in
    ap (λ (l : List ℕ). num (take 8 w) ∷ l)
    (bytes-more i (drop 8 w) ∙ ap (λ (l : List Bool). bytes_of i (drop 8 w) ++ num (take 8 l) ∷ [])
    (drop-drop (8 * i) 8 w ∙ ap (λ (n : ℕ). drop n w) e))

-- ---- the loop

-- the bits that the first bytes hold once the field is laid
abbrev pub held : List ℕ → ℕ → ℕ → ℕ → List Bool
held buf at count value = take at (bits_of buf) ++ low count value

-- they are as many as lie before the field, and the field
pub length-held : (buf : List ℕ) (at count value : ℕ) → at ≤ 8 * length buf
    → length (held buf at count value) ≡ at + count
length-held buf at count value h =
    omega (
      arith,
      length-append (take at (bits_of buf)) (low count value),
      length-low count value,
      length-take-le at (bits_of buf) (omega (arith, length-bits buf)),
    )

-- i bytes of w are stored, and `left` holds the bits that are not
pub record Laying (buf : List ℕ) (w : List Bool) (out : List ℕ) (left i : ℕ) : Type 0 where
  pub bytes : out ≡ bytes_of i w ++ drop i buf
  pub rest : left ≡ num (drop (8 * i) w)
  pub same : length out ≡ length buf

-- none is stored yet
pub laying_start : (buf : List ℕ) (w : List Bool) (left : ℕ) → left ≡ num w → Laying buf w buf left 0
unfolding bytes_of
laying_start buf w left e = record { bytes = refl; rest = e; same = refl }

-- one byte more is stored
pub laying_step : (buf : List ℕ) (w : List Bool) (out : List ℕ) (left i : ℕ) → i < length out
    → Laying buf w out left i → Laying buf w (set out i (left % 256)) (left / 256) (i + 1)
laying_step buf w out left i h l =
    let n = length-bytes i w in
    let b = halved (drop (8 * i) w) in
    let v : left % 256 ≡ num (take 8 (drop (8 * i) w)) = ap (λ (x : ℕ). x % 256) l.rest ∙ sym b.first in
    let k : length (bytes_of i w) + 1 ≡ suc i = omega arith in
    let m : 8 * i + 8 ≡ 8 * (i + 1) = omega arith in
    record {
      bytes =
          set_split out i (left % 256) h
          ∙ ap₂ (λ (x y : List ℕ). x ++ left % 256 ∷ y)
          (ap (take i) l.bytes ∙ take_at (bytes_of i w) (drop i buf) i n)
          (ap (drop (suc i)) l.bytes ∙ ap (λ (x : ℕ). drop x (bytes_of i w ++ drop i buf)) (sym k)
          ∙ drop-append-add (bytes_of i w) (drop i buf) 1 ∙ drop-drop 1 i buf)
          ∙ ap (λ (x : ℕ). bytes_of i w ++ x ∷ drop (i + 1) buf) v
          ∙ sym (append_assoc (bytes_of i w) (num (take 8 (drop (8 * i) w)) ∷ []) (drop (i + 1) buf))
          ∙ ap (λ (x : List ℕ). x ++ drop (i + 1) buf)
          (sym (bytes-more i w) ∙ ap (λ (x : ℕ). bytes_of x w) (sym (add-one i)));
      rest =
          ap (λ (x : ℕ). x / 256) l.rest ∙ sym b.others
          ∙ ap num (drop-drop 8 (8 * i) w ∙ ap (λ (x : ℕ). drop x w) m);
      same = length-set out i (left % 256) ∙ l.same;
    }

-- bits laid into a buffer, where there are some
put_is : (buf : List ℕ) (at : ℕ) (f : List Bool) → 0 < length f
    → overlay buf 0 (bytes_holding (take at (bits_of buf) ++ f)) ≡ put buf at f
unfolding put
put_is buf at [] h = absurd (omega arith)
put_is buf at (b ∷ f) h = refl

-- all are stored
pub laying_end : (buf : List ℕ) (at count value : ℕ) (out : List ℕ) (left i : ℕ) → at ≤ 8 * length buf
    → 0 < count → at + count ≤ 8 * i → i ≤ (at + count + 7) / 8
    → Laying buf (held buf at count value) out left i → out ≡ put buf at (low count value)
unfolding bytes_holding
laying_end buf at count value out left i h n e m l =
    let w = held buf at count value in
    let k : i ≡ (length w + 7) / 8 = omega (arith, length-held buf at count value h) in
    l.bytes ∙ ap₂ (λ (x y : ℕ). bytes_of x w ++ drop y buf) k (k ∙ sym (length-bytes ((length w + 7) / 8) w))
    ∙ sym (overlay_first buf (bytes_holding w))
    ∙ put_is buf at (low count value) (omega (arith, length-low count value))

-- ---- the number that is laid

-- the first bits of a buffer are those of its first byte
take-first : (c : ℕ) (buf : List ℕ) (at : ℕ) → at ≤ 8 → take at (bits_of (c ∷ buf)) ≡ low at c
unfolding bits_of
take-first c buf at h =
    let e : 8 ≡ at + (8 - at) = omega arith in
    take-append-le at (low 8 c) (bits_of buf) (omega (arith, length-low 8 c))
    ∙ ap (λ (n : ℕ). take at (low n c)) e ∙ take-low at (8 - at) c

-- the low bits of the first byte, and the field above them, as the code joins them
pub record Begun (buf : List ℕ) (at count value left : ℕ) : Type 0 where
  pub begins : left ≡ num (held buf at count value)
  pub fits : left < 18446744073709551616

-- so it is for a field of at most 56 bits that starts in the first byte
pub begun : (buf : List ℕ) (at count value : ℕ) → at ≤ 8 → count ≤ 56 → value < 2 ^ count
    → at + count ≤ 8 * length buf → 0 < count
    → Begun buf at count value (get_or buf 0 0 % (1 * 2 ^ at % 2 ^ 64) + value * 2 ^ at % 2 ^ 64)
begun [] at count value h l v n p = absurd (omega arith)
begun (c ∷ buf) at count value h l v n p =
    let t : take at (bits_of (c ∷ buf)) ≡ low at c = take-first c buf at h in
    let o : 1 * 2 ^ at % 2 ^ 64 ≡ 2 ^ at = shl_one at 64 (omega arith) in
    let s : value * 2 ^ at % 2 ^ 64 ≡ value * 2 ^ at = shl_exact count at 64 v (omega arith) in
    let w = held (c ∷ buf) at count value in
    let e : num w ≡ c % 2 ^ at + value * 2 ^ at =
    ap (λ (x : List Bool). num (x ++ low count value)) t ∙ num_append (low at c) (low count value)
    ∙ ap₂ (λ (x y : ℕ). x + y) (num-low at c)
    (ap₂ (λ (x y : ℕ). x * 2 ^ y) (num-low count value ∙ mod-eq_of_lt v) (length-low at c)) in
    let b : num w < 2 ^ 64 =
    lt_of_lt_of_le (num_lt w) (pow_mono {i = length w} {j = 64}
    (omega (arith, length-held (c ∷ buf) at count value (omega arith)))) in
    record { begins = rw (o, s) (sym e); fits = rw (o, s) (omega arith) }
