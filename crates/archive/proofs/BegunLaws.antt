-- Right blocks of a recording, one after the other: what they hold so far, and where the recording ends.
-- Assumes nothing.
use mathlib.Core.Path.{◌≡◌, refl, ap, ◌∙◌}
use mathlib.Core.Bool.{Bool, true, false}
use mathlib.Core.List.{List, [], ◌∷◌, ◌++◌}
use Prim.Native.Nat.{ℕ, zero, suc, ◌+◌, ◌*◌, ◌≤◌, ◌<◌}
use native.Mathlib.Numerals.{add-one}
use native.Mathlib.Omega.{arith}
use lib.ListN.{length, take, drop, length-append, length-take, length-drop}
use lib.Seq.{drop_at, take_all, take-append-le, drop-append-le, drop-drop}
use Rattle.little_endian.specs.LittleEndian.{from_little_endian}
use Rattle.archive.specs.Block.{Bytes, block_bytes, max_used, block, used_in, data_in}
use Rattle.archive.specs.Recording.{InSpan, head_bytes, stream, of_stream}
use Rattle.archive.specs.Recording.{blocks_for}
use Rattle.archive.specs.Recording.{numbered, recording_blocks}
use Rattle.archive.specs.Faults.{announced_by, used_asked, finished, none_left}
use Rattle.archive.proofs.BlockLaws.{numbered_more, head-cut}
use Rattle.archive.proofs.ByteLaws.{bytes_take, bytes_drop, bytes_append}
use Rattle.archive.proofs.FaultLaws.{Right}
use Rattle.archive.proofs.RightLaws.{used-last, used_full, used-most, finished_then, unfinished_then}
use Rattle.archive.proofs.RightLaws.{data_length, right_is}
use Rattle.archive.proofs.StreamLaws.{stream-is, stream-in_span}

-- the blocks of a stream do not hang on what is behind their bytes
numbered-prefix : (count number : ℕ) (s t : List ℕ) → 504 * count ≤ length s
    → numbered count number (s ++ t) ≡ numbered count number s
unfolding numbered
numbered-prefix zero number s t h = refl
numbered-prefix (suc count) number s t h =
    let d = length-drop max_used s in
    rw (
      take-append-le max_used s t (omega arith),
      drop-append-le max_used s t (omega arith),
      numbered-prefix count (number + 1) (drop max_used s) t (omega arith),
    )

-- what the blocks of a recording so far hold, where more have to come
pub record Begun (announced before : ℕ) (acc : List ℕ) : Type 0 where
  pub long : length acc ≡ 504 * before
  pub bytes : Bytes acc
  pub says : 0 < before → from_little_endian (take 4 (drop 8 acc)) ≡ announced
  pub goes_on : 0 < before → 504 * before < head_bytes + announced

-- nothing is begun
pub begun-none : (announced : ℕ) → Begun announced 0 []
begun-none announced = record {
  long = refl;
  bytes = λ i. omega arith;
  says = λ h. absurd (omega arith);
  goes_on = λ h. absurd (omega arith);
}

-- the recording does not end before its next block
announced_goes : (a before : ℕ) (acc b : List ℕ) → Begun a before acc
    → 504 * before < head_bytes + announced_by a before b
unfolding announced_by
announced_goes a zero acc b g = omega arith
announced_goes a (suc before) acc b g = g.goes_on (omega arith)

-- the length announced in the first block or before it
says_both : (a before : ℕ) (acc b : List ℕ) → Begun a before acc → length b ≡ block_bytes → (before ≡ 0
    → 12 ≤ length (data_in b))
    → from_little_endian (take 4 (drop 8 (acc ++ data_in b))) ≡ announced_by a before b
unfolding announced_by
says_both a zero [] b g size h =
    let t = length-take (used_in b) (drop 4 b) in
    let n = length-drop 4 b in
    let k = h refl in
    ap from_little_endian (head-cut (used_in b) (drop 4 b) (omega arith) (omega arith) ∙ rw (drop-drop 8 4 b))
says_both a zero (x ∷ acc) b g size h = absurd (let e = g.long in omega arith)
says_both a (suc before) acc b g size h =
    let e = g.long in
    let n = length-drop 8 acc in
    ap from_little_endian (rw (
      drop-append-le 8 acc (data_in b) (omega arith),
      take-append-le 4 (drop 8 acc)
          (data_in b) (omega arith),
    ))
    ∙ g.says (omega arith)

-- one block more, which is right
module _ (a before : ℕ) (acc b : List ℕ) (rest : List (List ℕ)) (begun : Begun a before acc)
    (r : Right (none_left rest) (announced_by a before b) before b) (few : length b ≤ block_bytes)
    (bytes : Bytes b) where
  abbrev l : ℕ
  l = announced_by a before b

  abbrev d : List ℕ
  d = data_in b

  size : length b ≡ block_bytes
  size = let w = r.whole in omega arith

  d-length : length d ≡ used_asked l before
  d-length = data_length (none_left rest) l before b r bytes size ∙ r.used

  abbrev acc' : List ℕ
  acc' = acc ++ d

  l-goes : 504 * before < head_bytes + l
  l-goes = announced_goes a before acc b begun

  l-small : length d ≤ max_used
  l-small = rw d-length (used-most l before)

  both-length : length acc' ≡ 504 * before + length d
  both-length = let e = begun.long in simp length-append (omega arith)

  both_bytes : Bytes acc'
  both_bytes = bytes_append acc d begun.bytes (bytes_take (used_in b) (drop 4 b) (bytes_drop 4 b bytes))

  -- the block itself
  b-is : b ≡ block before d
  b-is = right_is (none_left rest) l before b r bytes size

  -- the blocks so far and this one are those of the bytes so far and its own
  one_more_lem : numbered (suc before) 0 acc' ≡ numbered before 0 acc ++ (b ∷ [])
  one_more_lem =
      let e = begun.long in
      let z : 0 + before ≡ before = omega arith in
      numbered_more before 0 acc'
      ∙ rw (
        numbered-prefix before 0 acc d (omega arith),
        drop_at acc d (504 * before) e,
        take_all max_used d l-small,
        z,
        ← b-is,
      )

  -- the first block of a recording uses 12 bytes or more
  asked-head : before ≡ 0 → 12 ≤ length d
  asked-head z = go (finished l before) refl
    where
      go : (t : Bool) → finished l before ≡ t → 12 ≤ length d
      go true q = let u = used-last l before q (omega arith) in let e = d-length in omega arith
      go false q = let u = used_full l before q in let e = d-length in omega arith

  -- they announce the length that the recording has
  pub says_on : from_little_endian (take 4 (drop 8 acc')) ≡ l
  says_on = says_both a before acc b begun size asked-head

  -- where the recording goes on
  pub begun-on : finished l before ≡ false → Begun l (before + 1) acc'
  begun-on q =
      let u = used_full l before q in
      let e = d-length in
      let n = both-length in
      record {
        long = omega arith;
        bytes = both_bytes;
        says = λ h. says_on;
        goes_on = λ h. unfinished_then l before q;
      }

  -- where it ends
  ended-length : finished l before ≡ true → length acc' ≡ head_bytes + l
  ended-length q =
      let u = used-last l before q (let h = l-goes in omega arith) in
      let e = d-length in
      let n = both-length in
      omega arith

  pub ended_is : finished l before ≡ true → stream (of_stream acc') ≡ acc'
  ended_is q = stream-is acc' both_bytes l (ended-length q) says_on r.limit

  pub ended-span : finished l before ≡ true → InSpan (of_stream acc')
  ended-span q = stream-in_span acc' both_bytes l (ended-length q) says_on r.limit

  pub ended-blocks : finished l before ≡ true
      → recording_blocks (of_stream acc') ≡ numbered before 0 acc ++ (b ∷ [])
  ended-blocks q =
      let h = l-goes in
      let f = finished_then l before q in
      let n = ended-length q in
      let c : blocks_for (length acc') ≡ suc before = omega arith in
      ap (λ (s : List ℕ). numbered (blocks_for (length s)) 0 s) (ended_is q)
      ∙ ap (λ (k : ℕ). numbered k 0 acc') c ∙ one_more_lem

  pub more-blocks : numbered (before + 1) 0 acc' ≡ numbered before 0 acc ++ (b ∷ [])
  more-blocks = rw (add-one before) one_more_lem
