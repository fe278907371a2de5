-- A right block is the block of its number and its used bytes, and of no others.
-- Assumes nothing.
use mathlib.Core.Path.{◌≡◌, refl, sym, ap, ap₂, ◌∙◌}
use mathlib.Core.Bool.{Bool, true, false, cond}
use mathlib.Core.List.{List, ◌++◌, append_assoc}
use Prim.Native.Nat.{ℕ, ◌+◌, ◌-◌, ◌*◌, ◌≤◌, ◌<◌}
use native.Mathlib.Omega.{arith}
use borrow.Author.Tests.{eqb-true, ltb-true, ltb-false, le-ltb, le-leb, lt-leb, leb-true, leb-false}
use lib.Dec.{ltb}
use lib.ListN.{length, take, drop, replicate, length-take, length-drop, take-append-drop}
use lib.Seq.{take_at, drop-drop, take_all}
use Rattle.little_endian.specs.LittleEndian.{little_endian, from_little_endian}
use Rattle.archive.specs.Block.{Bytes, block_bytes, checked_bytes, max_used, check_of, block_body, block}
use Rattle.archive.specs.Block.{used_in, data_in, filling_in}
use Rattle.archive.specs.Recording.{head_bytes}
use Rattle.archive.specs.Faults.{used_asked, finished}
use Rattle.archive.proofs.BlockLaws.{body_length}
use Rattle.archive.proofs.ByteLaws.{bytes_take, bytes_drop, number_bytes-back, zeros_are}
use Rattle.archive.proofs.FaultLaws.{Right}

-- ---- the used bytes that are asked for

-- at most 504
pub used-most : (announced before : ℕ) → used_asked announced before ≤ max_used
unfolding used_asked
used-most announced before = go (ltb (head_bytes + announced) (max_used * (before + 1))) refl
  where
    go : (t : Bool) → ltb (head_bytes + announced) (max_used * (before + 1)) ≡ t
        → cond t (head_bytes + announced - max_used * before) max_used ≤ max_used
    go true q = let h = ltb-true (head_bytes + announced) (max_used * (before + 1)) q in omega arith
    go false q = omega arith

-- in a last block what is left of the stream
pub used-last : (announced before : ℕ) → finished announced before ≡ true
    → 504 * before ≤ head_bytes + announced
    → used_asked announced before + 504 * before ≡ head_bytes + announced
unfolding used_asked finished
used-last announced before f h = go (ltb (head_bytes + announced) (max_used * (before + 1))) refl
  where
    go : (t : Bool) → ltb (head_bytes + announced) (max_used * (before + 1)) ≡ t
        → cond t (head_bytes + announced - max_used * before) max_used + 504 * before ≡ head_bytes + announced
    go true q = omega arith
    go false q = let g = ltb-false (head_bytes + announced) (max_used * (before + 1)) q in let k = leb-true
        (head_bytes + announced) (max_used * (before + 1)) f in omega arith

-- and 504 in any other
pub used_full : (announced before : ℕ) → finished announced before ≡ false
    → used_asked announced before ≡ max_used
unfolding used_asked finished
used_full announced before f =
    let k = leb-false (head_bytes + announced) (max_used * (before + 1)) f in
    rw (le-ltb (head_bytes + announced) (max_used * (before + 1)) (omega arith))

-- both ways of the test
pub finished_when : (announced before : ℕ) → head_bytes + announced ≤ 504 * (before + 1)
    → finished announced before ≡ true
unfolding finished
finished_when announced before h = le-leb _ _ h

pub unfinished_when : (announced before : ℕ) → 504 * (before + 1) < head_bytes + announced
    → finished announced before ≡ false
unfolding finished
unfinished_when announced before h = lt-leb _ _ h

pub finished_then : (announced before : ℕ) → finished announced before ≡ true
    → head_bytes + announced ≤ 504 * (before + 1)
unfolding finished
finished_then announced before f = leb-true (head_bytes + announced) (max_used * (before + 1)) f

pub unfinished_then : (announced before : ℕ) → finished announced before ≡ false
    → 504 * (before + 1) < head_bytes + announced
unfolding finished
unfinished_then announced before f = leb-false (head_bytes + announced) (max_used * (before + 1)) f

-- ---- a right block

-- bytes are those of the number that they hold
number_of : (count : ℕ) (l : List ℕ) → length l ≡ count → Bytes l
    → l ≡ little_endian count (from_little_endian l)
number_of count l e b = sym (rw e at (number_bytes-back l b))

module _ (last : Bool) (announced before : ℕ) (b : List ℕ) (r : Right last announced before b)
    (bytes : Bytes b)
    (size : length b ≡ block_bytes) where
  few : used_in b ≤ max_used
  few = rw r.used (used-most announced before)

  pub data_length : length (data_in b) ≡ used_in b
  data_length = let t = length-take (used_in b)
      (drop 4 b) in let d = length-drop 4 b in let f = few in omega arith

  two : take 2 b ≡ little_endian 2 before
  two = let t = length-take 2 b in
      number_of 2 (take 2 b) (omega arith) (bytes_take 2 b bytes) ∙ ap (little_endian 2) r.number

  next-two : take 2 (drop 2 b) ≡ little_endian 2 (length (data_in b))
  next-two =
      let t = length-take 2 (drop 2 b) in
      let d = length-drop 2 b in
      number_of 2 (take 2 (drop 2 b)) (omega arith) (bytes_take 2 (drop 2 b) (bytes_drop 2 b bytes))
      ∙ ap (little_endian 2) (sym data_length)

  zeros : filling_in b ≡ replicate (max_used - length (data_in b)) 0
  zeros =
      let f = few in
      let t = length-take (max_used - used_in b) (drop (4 + used_in b) b) in
      let d = length-drop (4 + used_in b) b in
      let n : length (filling_in b) ≡ max_used - length (data_in b) = let e = data_length in omega arith in
      zeros_are (filling_in b) r.filling ∙ ap (λ (k : ℕ). replicate k 0) n

  parts : b ≡ block_body before (data_in b) ++ drop checked_bytes b
  unfolding block_body
  parts =
      let f = few in
      let a = take-append-drop 2 b in
      let c : drop 2 b ≡ take 2 (drop 2 b) ++ drop 4 b =
      sym (take-append-drop 2 (drop 2 b)) ∙ rw (drop-drop 2 2 b) in
      let d : drop 4 b ≡ data_in b ++ drop (4 + used_in b) b =
      sym (take-append-drop (used_in b) (drop 4 b)) ∙ rw (drop-drop (used_in b) 4 b) in
      let n : 4 + used_in b + (max_used - used_in b) ≡ checked_bytes = omega arith in
      let e : drop (4 + used_in b) b ≡ filling_in b ++ drop checked_bytes b =
      sym (take-append-drop (max_used - used_in b) (drop (4 + used_in b) b))
      ∙ rw (drop-drop (max_used - used_in b) (4 + used_in b) b, n) in
      sym a
      ∙ ap₂ (λ (x y : List ℕ). x ++ y) two
      (c ∙ ap₂ (λ (x y : List ℕ). x ++ y) next-two
      (d ∙ ap (λ (y : List ℕ). data_in b ++ y) (e ∙ ap (λ (x : List ℕ). x ++ drop checked_bytes b) zeros)))
      ∙ simp append_assoc

  -- it is the block of its number and its used bytes
  pub right_is : b ≡ block before (data_in b)
  unfolding block
  right_is =
      let body = block_body before (data_in b) in
      let n = body_length before (data_in b) (let e = data_length in let f = few in omega arith) in
      let tail = drop checked_bytes b in
      let l : length tail ≡ 4 = let d = length-drop checked_bytes b in omega arith in
      let same : check_of b ≡ check_of body =
      ap check_of parts ∙ rw (take_at body tail checked_bytes n, take_all checked_bytes body (omega arith)) in
      let whole : take 4 tail ≡ tail = take_all 4 tail (omega arith) in
      let held : tail ≡ little_endian 4 (check_of body) =
      number_of 4 tail l (bytes_drop checked_bytes b bytes)
      ∙ ap (λ (x : List ℕ). little_endian 4 (from_little_endian x)) (sym whole)
      ∙ ap (little_endian 4) (sym (eqb-true _ _ r.checked) ∙ same) in
      parts ∙ ap (λ (x : List ℕ). body ++ x) held
