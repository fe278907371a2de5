-- Laws of bits laid into bytes and into a buffer. Those that carry the rest: `bits_holding`,
-- `put_rest`, `put_byte` and `put-put`.
-- Assumes nothing.
use mathlib.Core.Path.{◌≡◌, refl, sym, ap, ap₂, ◌∙◌}
use mathlib.Core.Bool.{Bool, false}
use mathlib.Core.List.{List, [], ◌∷◌, ◌++◌, append_assoc, append-nil}
use Prim.Native.Nat.{ℕ, zero, suc, ◌+◌, ◌-◌, ◌*◌, ◌/◌, ◌%◌, ◌^◌, ◌≤◌, ◌<◌}
use native.Mathlib.Nat.{zero-add, suc-add, mod-eq_of_lt, sub-zero, add-zero}
use lib.Dec.{lit<}
use native.Mathlib.Decide.{dec_le}
use native.Mathlib.Omega.{arith}
use lib.ListN.{length, take, drop, get_or, set, length-append, length-drop, take-append-drop, drop_of_length-le}
use lib.Seq.{take_all, take-append-le, take-append-add, take-append_seam, take_at, drop_at, length-take-le, drop-cons, set_split}
use Rattle.overlay.specs.Overlay.{overlay}
use Rattle.overlay.proofs.OverlayLaws.{overlay_first, overlay_behind, overlay_again}
use Rattle.bits.specs.Bits.{low, num, bits_of}
use Rattle.bits.specs.Laid.{bytes_of, bytes_holding, put}
use Rattle.bits.proofs.BitLaws.{length-low, length-bits, num_append, num_lt, num-low, low-num, take-low, low-add, low-shifted}

-- ---- bytes of bits

-- as many bytes as asked for
pub length-bytes : (n : ℕ) (w : List Bool) → length (bytes_of n w) ≡ n
unfolding bytes_of
length-bytes zero w = refl
length-bytes (suc n) w = ap suc (length-bytes n (drop 8 w))

-- as many bytes as the bits need
pub length_holding : (w : List Bool) → length (bytes_holding w) ≡ (length w + 7) / 8
unfolding bytes_holding
length_holding w = length-bytes ((length w + 7) / 8) w

-- zeros after zeros
low_zeros : (i j : ℕ) → low i 0 ++ low j 0 ≡ low (i + j) 0
unfolding low
low_zeros zero j = rw zero-add
low_zeros (suc i) j = rw suc-add (ap (λ (l : List Bool). false ∷ l) (low_zeros i j))

-- more low bits of a number than the bits that it is made of: zeros above them
low_pad : (a : List Bool) (i : ℕ) → low (length a + i) (num a) ≡ a ++ low i 0
low_pad a i = low-shifted (length a) i (num a) (num_lt a) ∙ ap (λ (l : List Bool). l ++ low i 0) (low-num a)

-- no bits of a number
pub low-none : (n : ℕ) → low 0 n ≡ []
unfolding low
low-none n = refl

-- the first byte of some bits, then the others and zeros: the bits and zeros
byte-bits : (w : List Bool) (m : ℕ) → length w ≤ 8 + m → low 8 (num (take 8 w)) ++ (drop 8 w ++ low (m - length (drop 8 w)) 0) ≡ w ++ low (8 + m - length w) 0
byte-bits w m h = go (dec_le 8 (length w))
  where
    go : Dec (8 ≤ length w) → low 8 (num (take 8 w)) ++ (drop 8 w ++ low (m - length (drop 8 w)) 0) ≡ w ++ low (8 + m - length w) 0
    go (yes l) =
        let e : m - length (drop 8 w) ≡ 8 + m - length w = omega (arith, length-drop 8 w) in
        let t : low 8 (num (take 8 w)) ≡ take 8 w = ap (λ (k : ℕ). low k (num (take 8 w))) (sym (length-take-le 8 w l)) ∙ low-num (take 8 w) in
        rw (t, e) (sym (append_assoc (take 8 w) (drop 8 w) (low (8 + m - length w) 0)) ∙ ap (λ (x : List Bool). x ++ low (8 + m - length w) 0) (take-append-drop 8 w))
    go (no l) =
        let i = 8 - length w in
        let a : take 8 w ≡ w = take_all 8 w (omega arith) in
        let d : drop 8 w ≡ [] = drop_of_length-le w {i = 8} (omega arith) in
        let e : 8 ≡ length w + i = omega arith in
        let f : i + m ≡ 8 + m - length w = omega arith in
        let t : low 8 (num w) ≡ w ++ low i 0 = ap (λ (k : ℕ). low k (num w)) e ∙ low_pad w i in
        rw (a, d, t, ← f, sub-zero) (append_assoc w (low i 0) (low m 0) ∙ ap (λ (x : List Bool). w ++ x) (low_zeros i m))

-- the bits of n bytes made of w are w and zeros
pub bits-bytes : (n : ℕ) (w : List Bool) → length w ≤ 8 * n → bits_of (bytes_of n w) ≡ w ++ low (8 * n - length w) 0
unfolding bytes_of bits_of
bits-bytes zero [] h = sym (low-none 0)
bits-bytes zero (x ∷ w) h = absurd (omega arith)
bits-bytes (suc n) w h =
    let e : 8 * suc n ≡ 8 + 8 * n = omega arith in
    rw (bits-bytes n (drop 8 w) (omega (arith, length-drop 8 w)), e) (byte-bits w (8 * n) (omega arith))

-- the bits of the bytes that hold w are w and its spare bits, 0
pub bits_holding : (w : List Bool) → bits_of (bytes_holding w) ≡ w ++ low (8 * ((length w + 7) / 8) - length w) 0
unfolding bytes_holding
bits_holding w = bits-bytes ((length w + 7) / 8) w (omega arith)

-- ---- bytes that are there already

-- every element is below 256
abbrev pub Bytes : List ℕ → Type 0
Bytes s = (i : ℕ) → get_or s i 0 < 256

-- the bits of joined bytes
pub bits_append : (s t : List ℕ) → bits_of (s ++ t) ≡ bits_of s ++ bits_of t
unfolding bits_of
bits_append [] t = refl
bits_append (b ∷ s) t = ap (λ (l : List Bool). low 8 b ++ l) (bits_append s t) ∙ sym (append_assoc (low 8 b) (bits_of s) (bits_of t))

-- a whole byte in front is laid as itself
pub holding_byte : (b : ℕ) (w : List Bool) → b < 256 → bytes_holding (low 8 b ++ w) ≡ b ∷ bytes_holding w
unfolding bytes_holding bytes_of
holding_byte b w h =
    let l = length-low 8 b in
    let e : (length (low 8 b ++ w) + 7) / 8 ≡ suc ((length w + 7) / 8) = omega (arith, length-append (low 8 b) w) in
    rw (e, take_at (low 8 b) w 8 l, drop_at (low 8 b) w 8 l, num-low 8 b, mod-eq_of_lt h)

-- so are whole bytes
pub holding_bytes : (s : List ℕ) (w : List Bool) → Bytes s → bytes_holding (bits_of s ++ w) ≡ s ++ bytes_holding w
unfolding bits_of
holding_bytes [] w h = refl
holding_bytes (b ∷ s) w h =
    rw (append_assoc (low 8 b) (bits_of s) w) (holding_byte b (bits_of s ++ w) (h 0) ∙ ap (λ (l : List ℕ). b ∷ l) (holding_bytes s w (λ i. h (suc i))))

-- ---- a buffer

-- the bits before a place are those of the whole bytes, and some of the byte there
take-bits : (buf : List ℕ) (a k : ℕ) → a ≤ length buf → take (8 * a + k) (bits_of buf) ≡ bits_of (take a buf) ++ take k (bits_of (drop a buf))
take-bits buf a k h =
    let e : 8 * a + k ≡ length (bits_of (take a buf)) + k = omega (arith, length-bits (take a buf), length-take-le a buf h) in
    ap₂ (λ (n : ℕ) (l : List Bool). take n l) e (ap bits_of (sym (take-append-drop a buf)) ∙ bits_append (take a buf) (drop a buf))
    ∙ take-append-add (bits_of (take a buf)) (bits_of (drop a buf)) k

-- the first bytes of bytes are bytes
pub bytes_take : (buf : List ℕ) (a : ℕ) → Bytes buf → Bytes (take a buf)
bytes_take buf zero h i = lit< tt
bytes_take [] (suc a) h i = lit< tt
bytes_take (x ∷ buf) (suc a) h zero = h 0
bytes_take (x ∷ buf) (suc a) h (suc i) = bytes_take buf a (λ j. h (suc j)) i

-- the writer that is lent the buffer from a byte on writes what a writer of the whole would
pub put_rest : (buf : List ℕ) (a k : ℕ) (f : List Bool) → Bytes buf → a ≤ length buf → put buf (8 * a + k) f ≡ take a buf ++ put (drop a buf) k f
unfolding put
put_rest buf a k [] h l = sym (take-append-drop a buf)
put_rest buf a k (b ∷ f) h l =
    let t = take a buf in
    let r = take k (bits_of (drop a buf)) in
    rw (take-bits buf a k l, append_assoc (bits_of t) r (b ∷ f), holding_bytes t (r ++ b ∷ f) (bytes_take buf a h)) (overlay_behind buf (bytes_holding (r ++ b ∷ f)) a l)

-- bits that lie within the first byte
pub put_first : (c : ℕ) (rest : List ℕ) (k : ℕ) (f : List Bool) → 0 < length f → k + length f ≤ 8
    → put (c ∷ rest) k f ≡ (c % 2 ^ k + num f * 2 ^ k) ∷ rest
unfolding put overlay bytes_holding bytes_of bits_of
put_first c rest k [] h l = absurd (omega arith)
put_first c rest k (b ∷ f) h l =
    let t : take k (low 8 c ++ bits_of rest) ≡ low k c =
    take-append-le k (low 8 c) (bits_of rest) (omega (arith, length-low 8 c)) ∙ ap (λ (n : ℕ). take k (low n c)) (eight k (omega arith)) ∙ take-low k (8 - k) c in
    let w = low k c ++ b ∷ f in
    let lw : length w ≡ k + length (b ∷ f) = length-append (low k c) (b ∷ f) ∙ ap (λ (n : ℕ). n + length (b ∷ f)) (length-low k c) in
    let n : (length w + 7) / 8 ≡ 1 = omega arith in
    let v : num w ≡ c % 2 ^ k + num (b ∷ f) * 2 ^ k = num_append (low k c) (b ∷ f) ∙ ap₂ (λ (x y : ℕ). x + num (b ∷ f) * 2 ^ y) (num-low k c) (length-low k c) in
    rw (t, n, take_all 8 w (omega arith), v)
  where
    eight : (k : ℕ) → k ≤ 8 → 8 ≡ k + (8 - k)
    eight k h = omega arith

-- so a store to the byte at a place lays bits that lie within it
pub put_byte : (buf : List ℕ) (p : ℕ) (f : List Bool) → Bytes buf → p / 8 < length buf → 0 < length f → p % 8 + length f ≤ 8
    → set buf (p / 8) (get_or buf (p / 8) 0 % 2 ^ (p % 8) + num f * 2 ^ (p % 8)) ≡ put buf p f
put_byte buf p f h l n w =
    let a = p / 8 in
    let k = p % 8 in
    let c = get_or buf a 0 in
    let e : p ≡ 8 * a + k = omega arith in
    set_split buf a (c % 2 ^ k + num f * 2 ^ k) l
    ∙ ap (λ (x : List ℕ). take a buf ++ x) (sym (put_first c (drop (suc a) buf) k f n w) ∙ ap (λ (x : List ℕ). put x k f) (sym (drop-cons buf a 0 l)))
    ∙ sym (put_rest buf a k f h (omega arith)) ∙ ap (λ (x : ℕ). put buf x f) (sym e)

-- the bits of a buffer that w has been laid over: w, its spare bits, and those of the bytes behind
pub bits_overlay : (w : List Bool) (buf : List ℕ)
    → bits_of (overlay buf 0 (bytes_holding w)) ≡ w ++ (low (8 * ((length w + 7) / 8) - length w) 0 ++ bits_of (drop ((length w + 7) / 8) buf))
bits_overlay w buf =
    let z = low (8 * ((length w + 7) / 8) - length w) 0 in
    ap bits_of (overlay_first buf (bytes_holding w)) ∙ bits_append (bytes_holding w) (drop (length (bytes_holding w)) buf)
    ∙ ap₂ (λ (x : List Bool) (n : ℕ). x ++ bits_of (drop n buf)) (bits_holding w) (length_holding w)
    ∙ append_assoc w z (bits_of (drop ((length w + 7) / 8) buf))

-- so they begin with w
take_overlay : (w : List Bool) (buf : List ℕ) → take (length w) (bits_of (overlay buf 0 (bytes_holding w))) ≡ w
take_overlay w buf = ap (take (length w)) (bits_overlay w buf) ∙ take-append_seam w _

-- bits laid behind w are laid as if joined to it
lay-more : (w g : List Bool) (buf : List ℕ) → overlay (overlay buf 0 (bytes_holding w)) 0 (bytes_holding (take (length w) (bits_of (overlay buf 0 (bytes_holding w))) ++ g))
    ≡ overlay buf 0 (bytes_holding (w ++ g))
lay-more w g buf =
    rw (take_overlay w buf) (overlay_again buf (bytes_holding w) (bytes_holding (w ++ g)) (omega (arith, length_holding w, length_holding (w ++ g), length-append w g)))

-- bits laid behind bits: both, joined
pub put-put : (buf : List ℕ) (p : ℕ) (f g : List Bool) → p ≤ 8 * length buf → put (put buf p f) (p + length f) g ≡ put buf p (f ++ g)
unfolding put
put-put buf p [] g h = rw add-zero
put-put buf p (b ∷ f) [] h = ap (λ (l : List Bool). put buf p (b ∷ l)) (sym (append-nil f))
put-put buf p (b ∷ f) (d ∷ g) h =
    let t = take p (bits_of buf) in
    let e : p + length (b ∷ f) ≡ length (t ++ b ∷ f) =
    omega (arith, length-append t (b ∷ f), length-take-le p (bits_of buf) (omega (arith, length-bits buf))) in
    rw e (lay-more (t ++ b ∷ f) (d ∷ g) buf ∙ ap (λ (l : List Bool). overlay buf 0 (bytes_holding l)) (append_assoc t (b ∷ f) (d ∷ g)))

-- what a field leaves in a buffer: the bits before it, the field, spare bits 0, and the bytes
-- behind
pub put-parts : (buf : List ℕ) (p : ℕ) (f : List Bool) → 0 < length f →
    let w = take p (bits_of buf) ++ f in
    bits_of (put buf p f) ≡ w ++ (low (8 * ((length w + 7) / 8) - length w) 0 ++ bits_of (drop ((length w + 7) / 8) buf))
unfolding put
put-parts buf p [] h = absurd (omega arith)
put-parts buf p (b ∷ f) h = bits_overlay (take p (bits_of buf) ++ b ∷ f) buf

-- from the start of a buffer: the bytes that hold the bits, over it
pub put-start : (buf : List ℕ) (w : List Bool) → put buf 0 w ≡ overlay buf 0 (bytes_holding w)
unfolding put overlay bytes_holding bytes_of
put-start buf [] = refl
put-start buf (b ∷ w) = refl

-- no bits of a number change nothing
pub put-none : (buf : List ℕ) (p v : ℕ) → put buf p (low 0 v) ≡ buf
unfolding put low
put-none buf p v = refl

-- the low bits of a number, then those above them
pub put_low : (buf : List ℕ) (p i m v : ℕ) → p ≤ 8 * length buf → put (put buf p (low i v)) (p + i) (low m (v / 2 ^ i)) ≡ put buf p (low (i + m) v)
put_low buf p i m v h =
    ap (λ (n : ℕ). put (put buf p (low i v)) (p + n) (low m (v / 2 ^ i))) (sym (length-low i v))
    ∙ put-put buf p (low i v) (low m (v / 2 ^ i)) h ∙ ap (put buf p) (sym (low-add i m v))

-- no bits change nothing
pub put_nil : (buf : List ℕ) (p : ℕ) → put buf p [] ≡ buf
unfolding put
put_nil buf p = refl
