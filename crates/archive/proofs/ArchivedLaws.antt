-- The file of recordings is judged right and holds just these (Q9.8).
-- Assumes nothing.
use mathlib.Core.Path.{◌≡◌, refl, sym, ap, ◌∙◌}
use mathlib.Core.List.{List, [], ◌∷◌, ◌++◌}
use Prim.Native.Nat.{ℕ, suc, ◌+◌, ◌-◌}
use native.Mathlib.Omega.{arith}
use lib.ListN.{length, take, length-append, length-take}
use Rattle.little_endian.specs.LittleEndian.{from_little_endian}
use Rattle.archive.specs.Block.{max_used, block}
use Rattle.archive.specs.Recording.{Recording, InSpan, AllInSpan, stream}
use Rattle.archive.specs.Recording.{blocks_for}
use Rattle.archive.specs.Recording.{numbered, recording_blocks, archive_blocks, archive}
use Rattle.archive.specs.Faults.{announced_by, blocks_in, good, good_blocks}
use Rattle.archive.specs.Listing.{recordings_from, recordings_of}
use Rattle.archive.proofs.BlockLaws.{stream-length, numbered-count, cut_fits, head-cut}
use Rattle.archive.proofs.ByteLaws.{bytes_take}
use Rattle.archive.proofs.FileLaws.{whole-archive, joined_length, blocks-back}
use Rattle.archive.proofs.PartLaws.{made-length}
use Rattle.archive.proofs.StreamLaws.{stream-back, stream-announces, stream-bytes}
use Rattle.archive.proofs.WalkLaws.{Left, Walked, walk}

-- where a recording begins, the length announced before does not count
pub good_anew : (a b : ℕ) (blocks : List (List ℕ)) → good a 0 blocks ≡ good b 0 blocks
unfolding good announced_by
good_anew a b [] = refl
good_anew a b (x ∷ blocks) = refl

pub gathered_anew : (s : List ℕ) (a b : ℕ) (blocks : List (List ℕ))
    → recordings_from s a 0 blocks ≡ recordings_from s b 0 blocks
unfolding recordings_from announced_by
gathered_anew s a b [] = refl
gathered_anew s a b (x ∷ blocks) = refl

-- a recording's blocks, and those after them
module _ (r : Recording) (span : InSpan r) where
  count : ℕ
  count = blocks_for (length (stream r)) - 1

  count-is : blocks_for (length (stream r)) ≡ suc count
  unfolding count
  count-is = let n = stream-length r in omega arith

  left : Left (length r.payload) 0 (suc count) (stream r)
  left = let n = stream-length r in
      record {
        all = omega arith;
        some = omega arith;
        blocks = sym count-is;
        bytes = stream-bytes r span;
        limit = span.length;
      }

  -- its first block announces its length
  announces : (a : ℕ) → announced_by a 0 (block 0 (take max_used (stream r))) ≡ length r.payload
  unfolding announced_by
  announces a =
      let n = stream-length r in
      let t = length-take max_used (stream r) in
      made-length 0 (take max_used (stream r)) (bytes_take max_used (stream r) (stream-bytes r span))
      (cut_fits (stream r)) (omega arith) (omega arith)
      ∙ ap from_little_endian (head-cut max_used (stream r) (omega arith) (omega arith))
      ∙ stream-announces r span

  walked : (a : ℕ) (bs : List (List ℕ))
      → Walked a 0 [] (numbered (suc count) 0 (stream r) ++ bs) (suc count) (length r.payload)
      (stream r) bs
  walked a bs = walk count a (length r.payload) 0 [] (stream r) bs left (announces a)

  blocks_are : recording_blocks r ≡ numbered (suc count) 0 (stream r)
  blocks_are = ap (λ (n : ℕ). numbered n 0 (stream r)) count-is

  -- they count, and so do those after them
  pub counted-on : (bs : List (List ℕ)) → good 0 0 (recording_blocks r ++ bs) ≡ length
      (recording_blocks r) + good 0 0 bs
  counted-on bs =
      let n = numbered-count (suc count) 0 (stream r) in
      rw blocks_are ((walked 0 bs).counted ∙ rw (n, good_anew (length r.payload) 0 bs))

  -- they hold the recording, and those after them the others
  pub gathered-on : (bs : List (List ℕ)) → recordings_from [] 0 0
      (recording_blocks r ++ bs) ≡ r ∷ recordings_from [] 0 0 bs
  gathered-on bs =
      rw blocks_are ((walked 0 bs).gathered
      ∙ rw (stream-back r span, gathered_anew [] (length r.payload) 0 bs))

-- all blocks of an archive are right
archive-good : {rs : List Recording} → AllInSpan rs → good 0 0 (archive_blocks rs) ≡ length (archive_blocks rs)
unfolding archive_blocks good
archive-good AllInSpan.none = refl
archive-good (AllInSpan.more {r} {rs} span all) =
    counted-on r span (archive_blocks rs)
    ∙ rw (archive-good all, length-append (recording_blocks r) (archive_blocks rs))

-- and hold its recordings
archive-holds : {rs : List Recording} → AllInSpan rs → recordings_from [] 0 0 (archive_blocks rs) ≡ rs
unfolding archive_blocks recordings_from
archive-holds AllInSpan.none = refl
archive-holds (AllInSpan.more {r} {rs} span all) =
    gathered-on r span (archive_blocks rs) ∙ ap (λ (l : List Recording). r ∷ l) (archive-holds all)

-- the file of recordings in span has no bad block
pub archived_good : (rs : List Recording) → AllInSpan rs → good_blocks (archive rs) ≡ blocks_in (archive rs)
archived_good rs all =
    let w = whole-archive rs in
    let n = joined_length w in
    ap (good 0 0) (blocks-back w) ∙ archive-good all ∙ omega arith

-- and its recordings are these
pub archived_recordings : (rs : List Recording) → AllInSpan rs → recordings_of (archive rs) ≡ rs
archived_recordings rs all = ap (recordings_from [] 0 0) (blocks-back (whole-archive rs)) ∙ archive-holds all
