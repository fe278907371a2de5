-- A file with one byte altered: its blocks are judged as before up to the one that holds the byte (Q9.7).
-- Assumes nothing.
use mathlib.Core.Path.{◌≡◌, refl, sym, ap, ap₂, ◌∙◌}
use mathlib.Core.Bool.{Bool, true, false, not, ◌&&◌, ◌||◌}
use mathlib.Core.List.{List, [], ◌∷◌}
use Prim.Native.Nat.{ℕ, zero, suc, ◌+◌, ◌*◌, ◌/◌, ◌%◌, ◌≤◌, ◌<◌}
use native.Mathlib.Omega.{arith}
use lib.Dec.{eqb, ltb}
use lib.ListN.{length, take, drop, get_or, set, length-set, length-take}
use lib.Seq.{take-set-lt, take-set-le, drop-set-lt, drop-set-add, get_or-take, get_or-drop, drop-drop}
use Rattle.answers.specs.Limits.{max_payload_bytes}
use Rattle.answers.proofs.TestLaws.{clash}
use Rattle.archive.specs.Block.{block_bytes, number_in, used_in, filling_in, passes}
use Rattle.archive.specs.Faults.{cut, blocks_in, file_blocks, announced_by, wrong, none_left, next_before}
use Rattle.archive.specs.Faults.{good, good_blocks, used_asked, finished, all_zero}
use Rattle.archive.proofs.FaultLaws.{good-ends, good_counts, Right, passes-right}
use Rattle.archive.proofs.CheckLaws.{altered_fails}

-- ---- blocks cut out of a file

-- so many blocks are so many
pub cut-count : (count : ℕ) (file : List ℕ) → length (cut count file) ≡ count
unfolding cut
cut-count zero file = refl
cut-count (suc count) file = ap suc (cut-count count (drop block_bytes file))

-- block j
pub cut_at : (count j : ℕ) (file : List ℕ) → j < count
    → get_or (cut count file) j [] ≡ take block_bytes (drop (512 * j) file)
unfolding cut
cut_at zero j file h = absurd (omega arith)
cut_at (suc count) zero file h = refl
cut_at (suc count) (suc j) file h =
    let e : 512 + 512 * j ≡ 512 * suc j = omega arith in
    cut_at count j (drop block_bytes file) (omega arith)
    ∙ rw (drop-drop (512 * j) 512 file, e)

-- a byte altered in a file is altered in its block
cut-set : (count j k v : ℕ) (file : List ℕ) → k < block_bytes → j < count
    → cut count (set file (512 * j + k) v)
    ≡ set (cut count file) j (set (take block_bytes (drop (512 * j) file)) k v)
unfolding cut
cut-set zero j k v file h g = absurd (omega arith)
cut-set (suc count) zero k v file h g =
    let e : 512 * 0 + k ≡ k = omega arith in
    rw (e, take-set-lt block_bytes file k v h, drop-set-lt block_bytes file k v h)
cut-set (suc count) (suc j) k v file h g =
    let e : 512 * suc j + k ≡ 512 + (512 * j + k) = omega arith in
    let f : 512 + 512 * j ≡ 512 * suc j = omega arith in
    rw (
      e,
      take-set-le block_bytes file (512 + (512 * j + k)) v (omega arith),
      drop-set-add block_bytes file
          (512 * j + k) v,
    )
    (ap (λ (l : List (List ℕ)). take block_bytes file ∷ l)
    (cut-set count j k v (drop block_bytes file) h (omega arith))
    ∙ rw (drop-drop (512 * j) 512 file, f))

-- ---- blocks judged

-- the second of seven tests is enough
second : (a c d e f g h : Bool) → c ≡ false → (a || not c || d || e || f || g || h) ≡ true
second true true d e f g h q = clash refl q
second false true d e f g h q = clash refl q
second true false d e f g h q = refl
second false false d e f g h q = refl

-- a wrong check is enough
check_wrong : (last : Bool) (announced before : ℕ) (b : List ℕ) → passes b ≡ false
    → wrong last announced before b ≡ true
unfolding wrong
check_wrong last announced before b e =
    second (ltb (length b) block_bytes) (passes b) (ltb max_payload_bytes announced)
    (not (eqb (number_in b) before))
    (not (eqb (used_in b) (used_asked announced before))) (not (all_zero (filling_in b)))
    (last && not (finished announced before)) e

-- the first block is right where all are
first-right : (a n : ℕ) (b : List ℕ) (rest : List (List ℕ)) → good a n (b ∷ rest) ≡ suc (length rest)
    → wrong (none_left rest) (announced_by a n b) n b ≡ false
first-right a n b rest e = go (wrong (none_left rest) (announced_by a n b) n b) refl
  where
    go : (t : Bool) → wrong (none_left rest) (announced_by a n b) n b ≡ t → t ≡ false
    go true q = absurd (let z = good-ends a n b rest q in omega arith)
    go false q = refl

-- and so are the others
pub rest-right : (a n : ℕ) (b : List ℕ) (rest : List (List ℕ)) → good a n (b ∷ rest) ≡ suc (length rest)
    → good (announced_by a n b) (next_before (announced_by a n b) n) rest ≡ length rest
rest-right a n b rest e = let z = good_counts a n b rest (first-right a n b rest e) in omega arith

-- what the first one is
pub right-first : (a n : ℕ) (b : List ℕ) (rest : List (List ℕ)) → good a n (b ∷ rest) ≡ suc (length rest)
    → Right (none_left rest) (announced_by a n b) n b
right-first a n b rest e = passes-right _ _ _ _ (first-right a n b rest e)

-- each block is whole and passes where all are right
pub record Passing (b : List ℕ) : Type 0 where
  pub whole : block_bytes ≤ length b
  pub checked : passes b ≡ true

pub each-passes : (a n j : ℕ) (blocks : List (List ℕ)) → good a n blocks ≡ length blocks → j < length blocks
    → Passing (get_or blocks j [])
each-passes a n j [] e h = absurd (omega arith)
each-passes a n zero (b ∷ rest) e h =
    let r = right-first a n b rest e in record { whole = r.whole; checked = r.checked }
each-passes a n (suc j) (b ∷ rest) e h =
    let l = announced_by a n b in
    each-passes l (next_before l n) j rest (rest-right a n b rest e) (omega arith)

-- whether a block is the last does not hang on what another one holds
none-set : (j : ℕ) (b : List ℕ) (rest : List (List ℕ)) → none_left (set rest j b) ≡ none_left rest
none-set j b [] = refl
none-set zero b (x ∷ rest) = refl
none-set (suc j) b (x ∷ rest) = refl

-- of blocks that are all right, one that is put in with a wrong check is the first bad one
good-set : (a n j : ℕ) (blocks : List (List ℕ)) (b : List ℕ) → good a n blocks ≡ length blocks
    → j < length blocks → passes b ≡ false → good a n (set blocks j b) ≡ j
good-set a n j [] b e h p = absurd (omega arith)
good-set a n zero (x ∷ rest) b e h p = good-ends a n b rest (check_wrong _ _ _ b p)
good-set a n (suc j) (x ∷ rest) b e h p =
    let l = announced_by a n x in
    good_counts a n x (set rest j b) (rw (none-set j b rest) (first-right a n x rest e))
    ∙ ap suc (good-set l (next_before l n) j rest b (rest-right a n x rest e) (omega arith) p)

-- an accepted file with one byte altered has its first bad block where the byte stands
pub altered_file : (file : List ℕ) (i v : ℕ) → good_blocks file ≡ blocks_in file → i < length file
    → (get_or file i 0 ≡ v → ⊥) → good_blocks (set file i v) ≡ i / 512
altered_file file i v e h d =
    let j = i / 512 in
    let k = i % 512 in
    let at : i ≡ 512 * j + k = omega arith in
    let count = blocks_in file in
    let within : j < count = omega arith in
    let n = cut-count count file in
    let b = take block_bytes (drop (512 * j) file) in
    let ok : Passing b = rw (cut_at count j file within) at (each-passes 0 0 j (file_blocks file) (e
    ∙ sym n) (omega arith)) in
    let size : length b ≡ block_bytes = let w = ok.whole in let l = length-take block_bytes
    (drop (512 * j) file) in omega arith in
    let byte : get_or b k 0 ≡ get_or file i 0 =
    get_or-take block_bytes (drop (512 * j) file) k 0 (omega arith) ∙ get_or-drop (512 * j) file k 0
    ∙ ap (λ (x : ℕ). get_or file x 0) (sym at) in
    let fails : passes (set b k v) ≡ false =
    altered_fails b k v size ok.checked (omega arith) (λ q. d (sym byte ∙ q)) in
    let blocks : file_blocks (set file i v) ≡ set (file_blocks file) j (set b k v) =
    ap₂ (λ (c x : ℕ). cut ((c + 511) / 512) (set file x v)) (length-set file i v) at
    ∙ cut-set count j k v file (omega arith) within in
    ap (good 0 0) blocks ∙ good-set 0 0 j (file_blocks file) (set b k v) (e ∙ sym n) (omega arith) fails
