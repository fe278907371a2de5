-- What the writers' proofs cite: a field that is written by two calls, and one that is written into
-- the lent rest of a buffer.
-- Assumes nothing.
use mathlib.Core.Path.{◌≡◌, sym, ap, ap₂, ◌∙◌}
use mathlib.Core.Bool.{Bool}
use mathlib.Core.List.{List, [], ◌++◌, append-nil}
use Prim.Native.Nat.{ℕ, ◌+◌, ◌-◌, ◌*◌, ◌/◌, ◌%◌, ◌≤◌}
use native.Mathlib.Omega.{arith}
use lib.ListN.{length, take, drop, length-append, length-drop, drop_of_length-le}
use lib.Seq.{take_all}
use borrow.Rule.Slice.PartMut.{put_mid}
use Rattle.bits.specs.Bits.{low}
use Rattle.bits.specs.Fields.{unary_field}
use Rattle.bits.specs.Laid.{put}
use Rattle.bits.proofs.BitLaws.{low_ones, low-zero}
use Rattle.bits.proofs.LaidLaws.{Bytes, put-put, put_rest}

-- the second of two calls, at the place where the first ended, leaves both fields joined
pub put_two : (buf mid : List ℕ) (p q : ℕ) (f g : List Bool) → mid ≡ put buf p f → q ≡ p + length f → p ≤ 8 * length buf
    → put mid q g ≡ put buf p (f ++ g)
put_two buf mid p q f g e h l = rw (e, h) (put-put buf p f g l)

-- a count is the low bits of 32 ones, and a zero
pub unary-parts : (c : ℕ) → c ≤ 32 → unary_field c ≡ low c 4294967295 ++ low 1 0
unfolding unary_field
unary-parts c h = ap₂ (λ (x y : List Bool). x ++ y) (sym (low_ones c 32 h)) (sym low-zero)

-- the rest of a buffer from the byte of place p on, lent to a writer at the bit within that byte
-- and given back, is a put into the buffer
pub put-lent : (buf part : List ℕ) (p k : ℕ) (f : List Bool) → Bytes buf → p / 8 ≤ length buf → k ≡ p % 8
    → part ≡ put (take (length buf - p / 8) (drop (p / 8) buf)) k f → length part ≡ length (take (length buf - p / 8) (drop (p / 8) buf))
    → put_mid (p / 8) (length buf - p / 8) buf part ≡ put buf p f
put-lent buf part p k f h l e pe pl =
    let a = p / 8 in
    let n = length buf - a in
    let t : take n (drop a buf) ≡ drop a buf = take_all n (drop a buf) (omega (arith, length-drop a buf)) in
    let d : drop n (drop a buf) ≡ [] = drop_of_length-le (drop a buf) {i = n} (omega (arith, length-drop a buf)) in
    let q : p ≡ 8 * a + k = omega arith in
    rw d (ap (λ (x : List ℕ). take a buf ++ x) (append-nil part ∙ pe ∙ ap (λ (x : List ℕ). put x k f) t) ∙ sym (put_rest buf a k f h l) ∙ ap (λ (x : ℕ). put buf x f) (sym q))

-- the length of joined fields
pub length_two : (f g : List Bool) (w : List Bool) → w ≡ f ++ g → length w ≡ length f + length g
length_two f g w e = ap length e ∙ length-append f g
