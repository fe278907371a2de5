-- The blocks of a recording, judged and read one after the other.
-- Assumes nothing.
use mathlib.Core.Path.{◌≡◌, refl, ◌∙◌}
use mathlib.Core.Bool.{Bool, true, false}
use mathlib.Core.List.{List, [], ◌∷◌, ◌++◌, append_assoc}
use Prim.Native.Nat.{ℕ, zero, suc, ◌+◌, ◌*◌, ◌≤◌, ◌<◌}
use native.Mathlib.Numerals.{add-one}
use native.Mathlib.Omega.{arith}
use lib.ListN.{length, take, drop, length-take, length-drop, take-append-drop}
use lib.Seq.{take_all}
use Rattle.answers.specs.Limits.{max_payload_bytes}
use Rattle.archive.specs.Block.{Bytes, max_used, block}
use Rattle.archive.specs.Recording.{head_bytes, of_stream, blocks_for, numbered}
use Rattle.archive.specs.Faults.{announced_by, used_asked, finished, none_left, good}
use Rattle.archive.specs.Listing.{recordings_from}
use Rattle.archive.proofs.BlockLaws.{block-length, cut_fits}
use Rattle.archive.proofs.ByteLaws.{bytes_take, bytes_drop}
use Rattle.archive.proofs.FaultLaws.{good_counts, Right, right-passes}
use Rattle.archive.proofs.PartLaws.{made-number, made-used, made_data, made-filling, made-passes}
use Rattle.archive.proofs.RightLaws.{used-last, used_full, finished_when, unfinished_when}
use Rattle.archive.proofs.RightLaws.{finished_then, unfinished_then}

-- what is left of the stream of a recording: so many of its blocks stand before, and so many are to come
pub record Left (announced before count : ℕ) (s : List ℕ) : Type 0 where
  pub all : length s + 504 * before ≡ head_bytes + announced
  pub some : 0 < length s
  pub blocks : count ≡ blocks_for (length s)
  pub bytes : Bytes s
  pub limit : announced ≤ max_payload_bytes

module _ (announced before count : ℕ) (s : List ℕ) (l : Left announced before count s) where
  few : before < 65536
  few = let a = l.all in let m = l.limit in let o = l.some in omega arith

  -- the used bytes of its next block are those that are asked for
  used_asked_lem : length (take max_used s) ≡ used_asked announced before
  used_asked_lem = go (finished announced before) refl
    where
      go : (t : Bool) → finished announced before ≡ t → length (take max_used s) ≡ used_asked announced before
      go true q =
          let n = length-take max_used s in
          let a = l.all in
          let f = used-last announced before q (omega arith) in
          let g = finished_then announced before q in omega arith
      go false q =
          let n = length-take max_used s in
          let a = l.all in
          let f = used_full announced before q in
          let g = unfinished_then announced before q in omega arith

  -- and nothing is wrong with it, unless it is the file's last and the recording goes on
  next-right : (last : Bool) → (last ≡ true → finished announced before ≡ true)
      → Right last announced before (block before (take max_used s))
  next-right last c =
      let u = take max_used s in
      let b = bytes_take max_used s l.bytes in
      let f = cut_fits s in
      record {
        whole = let n = block-length before u f in omega arith;
        checked = made-passes before u b f few;
        limit = l.limit;
        number = made-number before u b f few;
        used = made-used before u b f few ∙ used_asked_lem;
        filling = made-filling before u b f few;
        closed = c;
      }

-- what blocks come to: how many are right, and the recordings
pub record Walked (a before : ℕ) (acc : List ℕ) (blocks : List (List ℕ)) (count announced : ℕ) (s : List ℕ)
    (rest : List (List ℕ)) : Type 0 where
  pub counted : good a before blocks ≡ count + good announced 0 rest
  pub gathered : recordings_from acc a before blocks ≡ of_stream (acc ++ s) ∷ recordings_from [] announced 0 rest

-- the announced length, in a block that is not the first
announced_on : (a before : ℕ) (b : List ℕ) → announced_by a (before + 1) b ≡ a
unfolding announced_by
announced_on a before b = rw (add-one before)

module _ (a announced before : ℕ) (acc s : List ℕ) (bs : List (List ℕ)) where
  abbrev u : List ℕ
  u = take max_used s

  abbrev b : List ℕ
  b = block before u

  -- the last block
  walk-last : Left announced before 1 s → announced_by a before b ≡ announced
      → Walked a before acc (b ∷ bs) 1 announced s bs
  unfolding recordings_from
  walk-last l says =
      let k = l.blocks in
      let al = l.all in
      let fin = finished_when announced before (omega arith) in
      let whole : take max_used s ≡ s = take_all max_used s (omega arith) in
      let held = made_data before u (bytes_take max_used s l.bytes) (cut_fits s)
      (few announced before 1 s l) in
      let right = right-passes (next-right announced before 1 s l (none_left bs) (λ _. fin)) in
      record {
        counted = good_counts a before b bs (rw says right) ∙ rw (says, fin) (omega arith);
        gathered = rw (says, fin, held, whole);
      }

  -- a block with more to come
  walk-on : (count : ℕ) → Left announced before (suc (suc count)) s → announced_by a before b ≡ announced
      → Walked announced (before + 1) (acc ++ u)
      (numbered (suc count) (before + 1) (drop max_used s) ++ bs) (suc count)
      announced (drop max_used s) bs
      → Walked a before acc (b ∷ (numbered (suc count) (before + 1) (drop max_used s) ++ bs))
      (suc (suc count)) announced s bs
  unfolding recordings_from numbered
  walk-on count l says w =
      let k = l.blocks in
      let al = l.all in
      let fin = unfinished_when announced before (omega arith) in
      let rest = numbered (suc count) (before + 1) (drop max_used s) ++ bs in
      let held = made_data before u (bytes_take max_used s l.bytes) (cut_fits s)
      (few announced before _ s l) in
      let right = right-passes (next-right announced before _ s l false
      (λ q. absurd (let z : ◌≡◌ {A = ℕ} 0 1 = cc in omega arith))) in
      let c = w.counted in
      let g = w.gathered in
      record {
        counted = good_counts a before b rest (rw says right) ∙ rw (says, fin, c) (omega arith);
        gathered = rw (says, fin, held, g, append_assoc acc u (drop max_used s), take-append-drop max_used s);
      }

-- all blocks of what is left
pub walk : (count a announced before : ℕ) (acc s : List ℕ) (bs : List (List ℕ))
    → Left announced before (suc count) s
    → announced_by a before (block before (take max_used s)) ≡ announced
    → Walked a before acc (numbered (suc count) before s ++ bs) (suc count) announced s bs
unfolding numbered
walk zero a announced before acc s bs l says = walk-last a announced before acc s bs l says
walk (suc count) a announced before acc s bs l says =
    let n = length-drop max_used s in
    let k = l.blocks in
    let al = l.all in
    let left : Left announced (before + 1) (suc count) (drop max_used s) =
    record {
      all = omega arith;
      some = omega arith;
      blocks = omega arith;
      bytes = bytes_drop max_used s l.bytes;
      limit = l.limit;
    } in
    walk-on a announced before acc s bs count l says
    (walk count announced announced (before + 1) (acc ++ take max_used s) (drop max_used s) bs left
    (announced_on announced before (block (before + 1) (take max_used (drop max_used s)))))
