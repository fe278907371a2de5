-- How long blocks, streams and files are, and blocks one after the other.
-- Assumes nothing.
use mathlib.Core.Path.{◌≡◌, refl, sym, ap, ◌∙◌}
use mathlib.Core.List.{List, [], ◌∷◌, ◌++◌, append_assoc}
use Prim.Native.Nat.{ℕ, zero, suc, ◌+◌, ◌-◌, ◌*◌, ◌≤◌}
use native.Mathlib.Omega.{arith}
use lib.ListN.{length, take, drop, length-append, length-replicate, length-take}
use lib.Seq.{drop-drop, drop_at, take-add, take-take, length-take-le}
use Rattle.little_endian.specs.LittleEndian.{little_endian}
use Rattle.archive.specs.Block.{max_used, checked_bytes, block_bytes, block_body, block}
use Rattle.archive.specs.Recording.{Recording, head_bytes, head, stream, blocks_for, numbered, joined}
use Rattle.archive.specs.Recording.{recording_bytes}

-- a number in so many bytes has that many
pub bytes-length : (count number : ℕ) → length (little_endian count number) ≡ count
unfolding little_endian
bytes-length zero number = refl
bytes-length (suc count) number = ap suc (bytes-length count _)

-- the bytes before the check are 508
pub body_length : (number : ℕ) (used : List ℕ) → length used ≤ max_used
    → length (block_body number used) ≡ checked_bytes
unfolding block_body
body_length number used h =
    simp (length-append, bytes-length, length-replicate) (omega arith)

-- a block has 512 bytes
pub block-length : (number : ℕ) (used : List ℕ) → length used ≤ max_used
    → length (block number used) ≡ block_bytes
unfolding block
block-length number used h =
    simp (length-append, bytes-length) (omega (arith, body_length number used h))

-- what is cut off a stream is at most 504 bytes
pub cut_fits : (s : List ℕ) → length (take max_used s) ≤ max_used
cut_fits s = let e = length-take max_used s in omega arith

-- the bytes before a payload are 12
pub head-length : (house start issue bytes : ℕ) → length (head house start issue bytes) ≡ head_bytes
unfolding head
head-length house start issue bytes = simp (length-append, bytes-length)

-- a stream is 12 bytes longer than its payload
pub stream-length : (r : Recording) → length (stream r) ≡ head_bytes + length r.payload
unfolding stream
stream-length r = simp (length-append, head-length)

-- bytes 8 to 11 of a stream stand in what is cut off it
pub head-cut : (u : ℕ) (s : List ℕ) → 12 ≤ u → 12 ≤ length s → take 4 (drop 8 (take u s)) ≡ take 4 (drop 8 s)
head-cut u s g h =
    let k = u - 8 in
    let n : 8 + k ≡ u = omega arith in
    let e : drop 8 (take u s) ≡ take k (drop 8 s) =
    ap (λ (x : ℕ). drop 8 (take x s)) (sym n) ∙ ap (drop 8) (take-add 8 k s)
    ∙ drop_at (take 8 s) (take k (drop 8 s)) 8 (length-take-le 8 s (omega arith)) in
    rw e (take-take 4 k (drop 8 s) (omega arith))

-- the bytes of blocks behind blocks
pub joined_append : (a b : List (List ℕ)) → joined (a ++ b) ≡ joined a ++ joined b
unfolding joined
joined_append [] b = refl
joined_append (x ∷ a) b = ap (λ (l : List ℕ). x ++ l) (joined_append a b)
    ∙ sym (append_assoc x (joined a) (joined b))

-- so many blocks are so many
pub numbered-count : (count number : ℕ) (s : List ℕ) → length (numbered count number s) ≡ count
unfolding numbered
numbered-count zero number s = refl
numbered-count (suc count) number s = ap suc (numbered-count count (number + 1) (drop max_used s))

-- and have 512 bytes each
pub numbered-length : (count number : ℕ) (s : List ℕ)
    → length (joined (numbered count number s)) ≡ 512 * count
unfolding numbered joined
numbered-length zero number s = refl
numbered-length (suc count) number s =
    let e = block-length number (take max_used s) (cut_fits s) in
    let n = numbered-length count (number + 1) (drop max_used s) in
    simp length-append (omega arith)

-- one block more at the end
pub numbered_more : (count number : ℕ) (s : List ℕ)
    → numbered (suc count) number s
    ≡ numbered count number s ++ (block (number + count) (take max_used (drop (504 * count) s)) ∷ [])
unfolding numbered
numbered_more zero number s = let e : number + 0 ≡ number = omega arith in rw e
numbered_more (suc count) number s =
    let e : number + 1 + count ≡ number + suc count = omega arith in
    let f : 504 + 504 * count ≡ 504 * suc count = omega arith in
    rw (numbered_more count (number + 1) (drop max_used s), drop-drop (504 * count) 504 s, e, f)

-- a recording's blocks
pub recording_length : (r : Recording) → length (recording_bytes r) ≡ 512 * blocks_for
    (head_bytes + length r.payload)
recording_length r =
    numbered-length (blocks_for (length (stream r))) 0 (stream r) ∙ rw (stream-length r)
