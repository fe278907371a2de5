-- Where recordings stand in a file that has no bad block, and what stands there.
-- Assumes nothing.
use mathlib.Core.Path.{◌≡◌, refl, sym, ap, ◌∙◌}
use mathlib.Core.List.{List, [], ◌∷◌, ◌++◌, append_assoc}
use Prim.Native.Nat.{ℕ, zero, suc, ◌+◌, ◌-◌, ◌*◌, ◌≤◌, ◌<◌}
use native.Mathlib.Numerals.{add-one}
use native.Mathlib.Omega.{arith}
use lib.ListN.{length, take, drop, get_or, length-append, length-take, length-drop}
use lib.Seq.{drop-drop, drop_at, drop-cons, take-add, take-take, length-take-le, take-append-le}
use lib.Seq.{drop-append-le}
use Rattle.little_endian.specs.LittleEndian.{little_endian, from_little_endian}
use Rattle.little_endian.proofs.LittleEndianLaws.{number-back}
use Rattle.archive.specs.Block.{max_used, block, number_at}
use Rattle.archive.specs.Recording.{Recording, InSpan, AllInSpan, head, stream, blocks_for}
use Rattle.archive.specs.Recording.{numbered, joined}
use Rattle.archive.specs.Recording.{recording_blocks, recording_bytes, archive_blocks, archive}
use Rattle.archive.specs.Listing.{recordings_of, Sound}
use Rattle.archive.specs.Places.{At, HeadAt, HeadOf, no_recording, recording_at}
use Rattle.archive.proofs.BlockLaws.{joined_append, block-length, cut_fits, stream-length}
use Rattle.archive.proofs.BlockLaws.{recording_length}
use Rattle.archive.proofs.ByteLaws.{short_back}
use Rattle.archive.proofs.PartLaws.{front, behind, block-parts, front_length}

-- ---- the bytes of a stream, found in its blocks

-- a part of what is cut off
inner_take : (w c n : ℕ) (s : List ℕ) → w + c ≤ n → w ≤ length s
    → take c (drop w (take n s)) ≡ take c (drop w s)
inner_take w c n s h g =
    let k = n - w in
    let e : w + k ≡ n = omega arith in
    let f : drop w (take n s) ≡ take k (drop w s) =
    ap (λ (x : ℕ). drop w (take x s)) (sym e) ∙ ap (drop w) (take-add w k s)
    ∙ drop_at (take w s) (take k (drop w s)) w (length-take-le w s g) in
    rw f (take-take c k (drop w s) (omega arith))

-- a block's data, whatever follows the block
data_rest : (number : ℕ) (u x : List ℕ) → drop 4 (block number u ++ x) ≡ u ++ (behind number u ++ x)
data_rest number u x =
    rw (block-parts number u, append_assoc (front number u) (u ++ behind number u) x)
    (drop_at (front number u) ((u ++ behind number u) ++ x) 4 (front_length number u)
    ∙ append_assoc u (behind number u) x)

-- a part of a stream that lies in block j
pub numbered-at : (count number j w c : ℕ) (s : List ℕ) → j < count → w + c ≤ 504 → 504 * j + w + c ≤ length s
    → take c (drop (512 * j + 4 + w) (joined (numbered count number s))) ≡ take c (drop (504 * j + w) s)
unfolding numbered joined
numbered-at zero number j w c s h g k = absurd (omega arith)
numbered-at (suc count) number zero w c s h g k =
    let u = take max_used s in
    let x = joined (numbered count (number + 1) (drop max_used s)) in
    let n = length-take max_used s in
    let m = length-drop w u in
    let e : 512 * 0 + 4 + w ≡ 4 + w = omega arith in
    let f : 504 * 0 + w ≡ w = omega arith in
    rw (
      e,
      f,
      ← drop-drop w 4 (block number u ++ x),
      data_rest number u x,
      drop-append-le w u (behind number u ++ x) (omega arith),
      take-append-le c (drop w u) (behind number u ++ x) (omega arith),
    ) (inner_take w c max_used s g (omega arith))
numbered-at (suc count) number (suc j) w c s h g k =
    let u = take max_used s in
    let x = joined (numbered count (number + 1) (drop max_used s)) in
    let n = block-length number u (cut_fits s) in
    let d = length-drop max_used s in
    let e : 512 * suc j + 4 + w ≡ 512 + (512 * j + 4 + w) = omega arith in
    let f : 504 * suc j + w ≡ 504 + (504 * j + w) = omega arith in
    rw (
      e,
      f,
      ← drop-drop (512 * j + 4 + w) 512 (block number u ++ x),
      drop_at (block number u) x 512 n,
      ← drop-drop (504 * j + w) 504 s,
    ) (numbered-at count (number + 1) j w c (drop max_used s) (omega arith) g (omega arith))

-- ---- recordings one after the other

-- the first recording of an archive, and the others
pub archive_cons : (r : Recording) (rs : List Recording) → archive (r ∷ rs) ≡ recording_bytes r ++ archive rs
unfolding archive_blocks
archive_cons r rs = joined_append (recording_blocks r) (archive_blocks rs)

-- no recording is an empty file
archive-none : length (archive []) ≡ 0
unfolding archive_blocks joined
archive-none = refl

-- every recording takes 512 bytes or more
archive-long : (rs : List Recording) → 512 * length rs ≤ length (archive rs)
archive-long [] = let z = archive-none in omega arith
archive-long (r ∷ rs) =
    let n = archive-long rs in
    let e = ap length (archive_cons r rs) in
    let m = length-append (recording_bytes r) (archive rs) in
    let k = recording_length r in
    omega arith

-- so a file has no more than that of them
pub recordings-few : (file : List ℕ) → Sound file → 512 * length (recordings_of file) ≤ length file
recordings-few file s = let n = archive-long (recordings_of file) in let e = ap length s.same in omega arith

-- a recording in span of a list
pub span-at : {rs : List Recording} → AllInSpan rs → (i : ℕ) (d : Recording) → i < length rs
    → InSpan (get_or rs i d)
span-at AllInSpan.none i d h = absurd (omega arith)
span-at (AllInSpan.more s all) zero d h = s
span-at (AllInSpan.more s all) (suc i) d h = span-at all i d (omega arith)

-- the first recording stands at the start
pub at-start : (file : List ℕ) → Sound file → At file 0 0
at-start file s = record { rest = s.same; inside = omega arith; within = omega arith }

module _ (file : List ℕ) (place i : ℕ) (a : At file place i) where
  -- the file ends where there is no recording more
  pub at-end : length file ≤ place → i ≡ length (recordings_of file)
  at-end h = go (drop i (recordings_of file)) refl
    where
      go : (rs : List Recording) → drop i (recordings_of file) ≡ rs → i ≡ length (recordings_of file)
      go [] e = let n = length-drop i (recordings_of file) in let m = ap length e in let w = a.within in
          omega arith
      go (r ∷ rs) e =
          absurd (let n = ap length (a.rest ∙ ap archive e ∙ archive_cons r rs) in
          let m = length-append (recording_bytes r) (archive rs) in
          let k = recording_length r in
          let d = length-drop place file in omega arith)

  -- and does not end before
  pub at-inside : place < length file → i < length (recordings_of file)
  at-inside h = go (drop i (recordings_of file)) refl
    where
      go : (rs : List Recording) → drop i (recordings_of file) ≡ rs → i < length (recordings_of file)
      go [] e = absurd (let n = ap length (a.rest ∙ ap archive e) in let d = length-drop place file in
          let z = archive-none in omega arith)
      go (r ∷ rs) e = let n = length-drop i (recordings_of file) in let m = ap length e in omega arith

  module _ (one : i < length (recordings_of file)) where
    abbrev r : Recording
    r = recording_at file i

    abbrev others : List Recording
    others = drop (suc i) (recordings_of file)

    -- the recording and those after it
    rest-is : drop place file ≡ recording_bytes (recording_at file i) ++ archive
        (drop (suc i) (recordings_of file))
    rest-is = a.rest ∙ ap archive (drop-cons (recordings_of file) i no_recording one) ∙ archive_cons r others

    taken-fits : place + 512 * blocks_for (12 + length r.payload) ≤ length file
    taken-fits =
        let n = ap length rest-is in
        let m = length-append (recording_bytes r) (archive others) in
        let k = recording_length r in
        let d = length-drop place file in
        let s = a.inside in
        omega arith

    -- the next one stands behind its blocks
    pub at_next : At file (place + 512 * blocks_for (12 + length r.payload)) (i + 1)
    at_next =
        let k = recording_length r in
        let f = taken-fits in
        record {
          rest = rw (add-one i, ← drop-drop (512 * blocks_for (12 + length r.payload)) place file, rest-is)
              (drop_at (recording_bytes r) (archive others) (512 * blocks_for (12 + length r.payload)) k);
          inside = f;
          within = omega arith;
        }

    -- a whole block stands there
    pub at_room : place + 512 ≤ length file
    at_room = let f = taken-fits in omega arith

    -- a part of its stream that lies in one block
    pub at-stream : (j w c : ℕ) → w + c ≤ 504 → 504 * j + w + c ≤ 12 + length r.payload → 0 < c
        → take c (drop (place + (512 * j + 4 + w)) file) ≡ take c (drop (504 * j + w) (stream r))
    at-stream j w c h g p =
        let n = stream-length r in
        let k = recording_length r in
        let m = length-drop (512 * j + 4 + w) (recording_bytes r) in
        let q : length r.payload + 12 ≤ 504 * blocks_for (12 + length r.payload) = omega arith in
        rw (
          ← drop-drop (512 * j + 4 + w) place file,
          rest-is,
          drop-append-le (512 * j + 4 + w) (recording_bytes r) (archive others) (omega arith),
          take-append-le c (drop (512 * j + 4 + w) (recording_bytes r)) (archive others) (omega arith),
        ) (numbered-at (blocks_for (length (stream r))) 0 j w c (stream r) (omega arith) h (omega arith))

    -- it lies within the file
    pub at-part-fits : (j w c : ℕ) → w + c ≤ 504 → 504 * j + w + c ≤ 12 + length r.payload → 0 < c
        → place + (512 * j + 4 + w) + c ≤ length file
    at-part-fits j w c h g p = let f = taken-fits in omega arith

    -- one of the first twelve bytes' numbers
    number-there : (w c : ℕ) → w + c ≤ 12 → 0 < c
        → number_at (drop place file) (4 + w) c ≡ from_little_endian (take c (drop w (stream r)))
    number-there w c h p =
        let e : 512 * 0 + 4 + w ≡ 4 + w = omega arith in
        let f : 504 * 0 + w ≡ w = omega arith in
        let t = rw (e, f) at (at-stream 0 w c (omega arith) (omega arith) p) in
        ap from_little_endian (rw (drop-drop (4 + w) place file) t)

    -- the four numbers there are the recording's
    pub at_head : InSpan r → {h s k n : ℕ} → HeadAt (drop place file) h s k n → HeadOf r h s k n
    unfolding stream head little_endian
    at_head span x = record {
      house = x.house ∙ number-there 0 2 (omega arith) (omega arith) ∙ short_back r.house span.house;
      start = x.start ∙ number-there 2 4 (omega arith) (omega arith) ∙ number-back r.start span.start;
      issue = x.issue ∙ number-there 6 2 (omega arith) (omega arith) ∙ short_back r.issue span.issue;
      payload = x.payload ∙ number-there 8 4 (omega arith) (omega arith)
          ∙ number-back (length r.payload) (let l = span.length in omega arith);
    }
