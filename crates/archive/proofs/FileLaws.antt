-- Files of whole blocks, cut and joined.
-- Assumes nothing.
use mathlib.Core.Path.{◌≡◌, refl, ap, ◌∙◌}
use mathlib.Core.List.{List, [], ◌∷◌, ◌++◌}
use Prim.Native.Nat.{ℕ, zero, suc, ◌+◌, ◌*◌, ◌≤◌}
use native.Mathlib.Omega.{arith}
use lib.ListN.{length, take, drop, length-append, length-take, length-drop, take-append-drop}
use lib.Seq.{take_at, drop_at}
use Rattle.archive.specs.Block.{Bytes, block_bytes, max_used}
use Rattle.archive.specs.Recording.{Recording, stream, blocks_for, numbered, joined}
use Rattle.archive.specs.Recording.{archive_blocks}
use Rattle.archive.specs.Faults.{cut, blocks_in, file_blocks}
use Rattle.archive.proofs.BlockLaws.{block-length, cut_fits}
use Rattle.archive.proofs.ByteLaws.{bytes_take, bytes_drop}

-- every block has 512 bytes
pub data Whole : List (List ℕ) → Type 0 where
  none : Whole []
  more : {b : List ℕ} {bs : List (List ℕ)} → length b ≡ block_bytes → Whole bs → Whole (b ∷ bs)

whole_append : {a b : List (List ℕ)} → Whole a → Whole b → Whole (a ++ b)
whole_append none w = w
whole_append (more e v) w = more e (whole_append v w)

whole-numbered : (count number : ℕ) (s : List ℕ) → Whole (numbered count number s)
unfolding numbered
whole-numbered zero number s = none
whole-numbered (suc count) number s =
    more (block-length number (take max_used s) (cut_fits s))
    (whole-numbered count (number + 1) (drop max_used s))

-- so have those of an archive
pub whole-archive : (rs : List Recording) → Whole (archive_blocks rs)
unfolding archive_blocks
whole-archive [] = none
whole-archive (r ∷ rs) = whole_append (whole-numbered (blocks_for (length (stream r))) 0 (stream r))
    (whole-archive rs)

-- the bytes of whole blocks
pub joined_length : {bs : List (List ℕ)} → Whole bs → length (joined bs) ≡ 512 * length bs
unfolding joined
joined_length none = refl
joined_length (more {b} {bs} e w) = let n = joined_length w in simp length-append (omega arith)

-- whole blocks come back out of their bytes
cut-joined : {bs : List (List ℕ)} → Whole bs → cut (length bs) (joined bs) ≡ bs
unfolding joined cut
cut-joined none = refl
cut-joined (more {b} {bs} e w) =
    rw (take_at b (joined bs) block_bytes e, drop_at b (joined bs) block_bytes e, cut-joined w)

pub blocks-back : {bs : List (List ℕ)} → Whole bs → file_blocks (joined bs) ≡ bs
blocks-back {bs} w =
    let n = joined_length w in
    let c : blocks_in (joined bs) ≡ length bs = omega arith in
    ap (λ (k : ℕ). cut k (joined bs)) c ∙ cut-joined w

-- a file comes back out of its blocks
joined-cut : (count : ℕ) (file : List ℕ) → length file ≤ 512 * count → joined (cut count file) ≡ file
unfolding joined cut
joined-cut zero [] h = refl
joined-cut zero (b ∷ file) h = absurd (omega arith)
joined-cut (suc count) file h =
    let n = length-drop block_bytes file in
    ap (λ (l : List ℕ). take block_bytes file ++ l) (joined-cut count (drop block_bytes file) (omega arith))
    ∙ take-append-drop block_bytes file

pub file-back : (file : List ℕ) → joined (file_blocks file) ≡ file
file-back file = joined-cut (blocks_in file) file (omega arith)

-- blocks of bytes, of at most 512
pub data Sized : List (List ℕ) → Type 0 where
  none : Sized []
  more : {b : List ℕ} {bs : List (List ℕ)} → length b ≤ block_bytes → Bytes b → Sized bs → Sized (b ∷ bs)

pub sized_cut : (count : ℕ) (file : List ℕ) → Bytes file → Sized (cut count file)
unfolding cut
sized_cut zero file b = none
sized_cut (suc count) file b =
    let n = length-take block_bytes file in
    let few : length (take block_bytes file) ≤ block_bytes = omega arith in
    more few (bytes_take block_bytes file b)
    (sized_cut count (drop block_bytes file) (bytes_drop block_bytes file b))
