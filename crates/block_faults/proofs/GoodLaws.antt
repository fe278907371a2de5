-- The blocks of a file, judged one after the other.
-- Assumes nothing.
use mathlib.Core.Path.{◌≡◌, refl, sym, ap, ap₂, ◌∙◌}
use mathlib.Core.Bool.{Bool, true, false}
use mathlib.Core.List.{List, ◌∷◌, ◌++◌}
use Prim.Native.Nat.{ℕ, suc, ◌+◌, ◌-◌, ◌*◌, ◌≤◌, ◌<◌, min}
use native.Mathlib.Omega.{arith}
use borrow.Author.Tests.{eq-eqb, ne_eqb, eqb-true, eqb-false}
use lib.Dec.{eqb}
use lib.ListN.{length, take, drop, length-take, length-drop}
use lib.Seq.{drop-drop}
use Rattle.std.proofs.lemmas.List.{take_min, drop_min}
use Rattle.std.proofs.Math.Seq.{take-append_seam, drop-append_seam}
use Rattle.archive.specs.Block.{block_bytes}
use Rattle.archive.specs.Faults.{cut, blocks_in, announced_by, wrong, none_left, next_before}
use Rattle.archive.specs.Faults.{good, good_blocks}
use Rattle.archive.proofs.FaultLaws.{good-ends, good_counts, none_left_lem}
use Rattle.block_faults.proofs.WrongLaws.{wrong-short}

-- the first i blocks are right, and the others are judged by these two numbers
pub record Judged (file : List ℕ) (announced before i : ℕ) : Type 0 where
  pub here : i ≤ blocks_in file
  pub left : i + good announced before (cut (blocks_in file - i) (drop (512 * i) file)) ≡ good_blocks file

-- none was judged
pub judged_none : (file : List ℕ) → Judged file 0 0 0
judged_none file =
    let e : blocks_in file - 0 ≡ blocks_in file = omega arith in
    record {
      here = omega arith;
      left = rw e (omega arith);
    }

-- the block at a place
abbrev pub block_at : List ℕ → ℕ → List ℕ
block_at file i = take 512 (drop (512 * i) file)

-- what is told of the block that the code takes is told of it
pub told_at : (file part : List ℕ) (i announced before l : ℕ) → part ≡ block_at file i
    → l ≡ announced_by announced before part → l ≡ announced_by announced before (block_at file i)
told_at file part i announced before l p e = e ∙ rw p

pub judged_at : (file part : List ℕ) (k i l b before count : ℕ) (bad : Bool) → part ≡ block_at file i → k ≡ i
    → b ≡ before → count ≡ blocks_in file → bad ≡ wrong (eqb (k + 1) count) l b part
    → bad ≡ wrong (eqb (i + 1) (blocks_in file)) l before (block_at file i)
judged_at file part k i l b before count bad p at same of e = e ∙ rw (at, same, of, p)

-- what is left is what stands behind the first i blocks
pub record Left (file : List ℕ) (i size : ℕ) (rest : List ℕ) : Type 0 where
  pub size_is : size ≡ 512
  pub rest_is : rest ≡ drop (512 * i) file

module _ (file : List ℕ) (i size : ℕ) (rest : List ℕ) (left : Left file i size rest) where
  pub rest-long : length rest ≡ length file - 512 * i
  rest-long = ap length left.rest_is ∙ length-drop (512 * i) file

  -- a block is there where bytes are left
  pub block_left : 0 < length rest → i < blocks_in file
  block_left some = omega (arith, rest-long)

  -- and none where none is
  pub none_left_count : length rest ≡ 0 → blocks_in file ≤ i
  none_left_count none = omega (arith, rest-long)

  module _ (part after : List ℕ) (cuts : rest ≡ part ++ after) (long : length part ≡ min size (length rest)) where
    long-is : length part ≡ min 512 (length (part ++ after))
    long-is = long ∙ ap₂ (λ (n : ℕ) (l : List ℕ). min n (length l)) left.size_is cuts

    whole-is : part ++ after ≡ drop (512 * i) file
    whole-is = sym cuts ∙ left.rest_is

    -- the next part is the next block
    pub block-is : part ≡ block_at file i
    block-is = sym (take-append_seam part after) ∙ ap (λ (m : ℕ). take m (part ++ after)) long-is
        ∙ take_min 512 (part ++ after) ∙ ap (take 512) whole-is

    -- and the others are behind it
    pub left_more : (n next : ℕ) → n ≡ size → next ≡ i + 1 → Left file next n after
    left_more n next e f =
        let g : 512 * i + 512 ≡ 512 * next = omega arith in
        record {
          size_is = e ∙ left.size_is;
          rest_is = sym (drop-append_seam part after) ∙ ap (λ (m : ℕ). drop m (part ++ after)) long-is
              ∙ drop_min 512 (part ++ after) ∙ ap (drop 512) whole-is ∙ drop-drop 512 (512 * i) file
              ∙ ap (λ (m : ℕ). drop m file) g;
        }

-- those behind it
abbrev pub behind : List ℕ → ℕ → List (List ℕ)
behind file i = cut (blocks_in file - (i + 1)) (drop (512 * (i + 1)) file)

module _ (file : List ℕ) (announced before i : ℕ) (h : i < blocks_in file)
    (j : Judged file announced before i) where
  -- what is left is that block and those
  parts : cut (blocks_in file - i) (drop (512 * i) file) ≡ block_at file i ∷ behind file i
  unfolding cut
  parts =
      let e : blocks_in file - i ≡ suc (blocks_in file - (i + 1)) = omega arith in
      let f : 512 * i + 512 ≡ 512 * (i + 1) = omega arith in
      rw (e, drop-drop 512 (512 * i) file, f)

  -- it is the last one where none is left behind it
  last-is : none_left (behind file i) ≡ eqb (i + 1) (blocks_in file)
  last-is = none_left_lem (blocks_in file - (i + 1)) (drop (512 * (i + 1)) file)
      ∙ go (eqb (i + 1) (blocks_in file)) refl
    where
      go : (t : Bool) → eqb (i + 1) (blocks_in file) ≡ t → eqb (blocks_in file - (i + 1)) 0 ≡ t
      go true q =
          let e = eqb-true (i + 1) (blocks_in file) q in
          eq-eqb (blocks_in file - (i + 1)) 0 (omega arith)
      go false q = ne_eqb (blocks_in file - (i + 1)) 0
          (λ z. eqb-false (i + 1) (blocks_in file) q (omega arith))

  module _ (l : ℕ) (bad : Bool) (is : l ≡ announced_by announced before (block_at file i))
      (judged : bad ≡ wrong (eqb (i + 1) (blocks_in file)) l before (block_at file i)) where
    -- a bad block is the first one
    pub judged_bad : bad ≡ true → i ≡ good_blocks file
    judged_bad e =
        let w = rw (← last-is, is) at (sym judged ∙ e) in
        let g = good-ends announced before (block_at file i) (behind file i) w in
        let k = rw (parts, g) at j.left in
        omega arith

    -- a right one leaves those behind it
    pub judged_more : (next : ℕ) → bad ≡ false → next ≡ next_before l before → Judged file l next (i + 1)
    judged_more next e n =
        let w = rw (← last-is, is) at (sym judged ∙ e) in
        let g = good_counts announced before (block_at file i) (behind file i) w in
        let k = rw (parts, g) at j.left in
        record {
          here = omega arith;
          left = rw (n, is) (omega arith);
        }

  -- a block under 512 bytes is bad
  pub judged_short : length file - 512 * i < block_bytes → i ≡ good_blocks file
  judged_short s =
      let b = block_at file i in
      let t = length-take 512 (drop (512 * i) file) in
      let d = length-drop (512 * i) file in
      let short : length b < block_bytes = omega arith in
      let l = announced_by announced before b in
      judged_bad l true refl
      (sym (wrong-short (eqb (i + 1) (blocks_in file)) l before b short)) refl

-- all were judged
pub judged_all : (file : List ℕ) (announced before i count : ℕ) → count ≡ blocks_in file → count ≤ i
    → Judged file announced before i → count ≡ good_blocks file
unfolding cut good
judged_all file announced before i count of h j =
    let e : blocks_in file - i ≡ 0 = omega arith in
    let k = rw e at j.left in
    omega (arith, j.here)
