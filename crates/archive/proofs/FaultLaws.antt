-- Blocks judged one after the other, and the tests of one block.
-- Assumes nothing.
use mathlib.Core.Path.{◌≡◌, refl, sym}
use mathlib.Core.Bool.{Bool, true, false, not, ◌&&◌, ◌||◌, cond}
use mathlib.Core.List.{List, [], ◌∷◌}
use Prim.Native.Nat.{ℕ, zero, suc, ◌≤◌}
use native.Mathlib.Omega.{arith}
use borrow.Author.Tests.{ltb-false, eqb-true, le-ltb, eq-eqb, ne_eqb}
use lib.Dec.{eqb, ltb}
use lib.ListN.{length}
use Rattle.answers.specs.Limits.{max_payload_bytes}
use Rattle.answers.proofs.TestLaws.{clash}
use Rattle.archive.specs.Block.{block_bytes, number_in, used_in, filling_in, passes}
use Rattle.archive.specs.Faults.{cut, announced_by, used_asked, finished, all_zero, wrong, none_left}
use Rattle.archive.specs.Faults.{next_before, good}

module _ (announced before : ℕ) (b : List ℕ) (rest : List (List ℕ)) where
  -- a bad block ends the count
  pub good-ends : wrong (none_left rest) (announced_by announced before b) before b ≡ true
      → good announced before (b ∷ rest) ≡ 0
  unfolding good
  good-ends e = rw e

  -- a right one counts
  pub good_counts : wrong (none_left rest) (announced_by announced before b) before b ≡ false
      → good announced before (b ∷ rest)
      ≡ suc (good (announced_by announced before b) (next_before (announced_by announced before b) before) rest)
  unfolding good
  good_counts e = rw e

-- a block is the last one where none is left to cut
pub none_left_lem : (count : ℕ) (file : List ℕ) → none_left (cut count file) ≡ eqb count 0
unfolding cut
none_left_lem zero file = refl
none_left_lem (suc count) file = sym (ne_eqb (suc count) 0 (λ e. omega arith))

-- what a right block is
pub record Right (last : Bool) (announced before : ℕ) (b : List ℕ) : Type 0 where
  pub whole : block_bytes ≤ length b
  pub checked : passes b ≡ true
  pub limit : announced ≤ max_payload_bytes
  pub number : number_in b ≡ before
  pub used : used_in b ≡ used_asked announced before
  pub filling : all_zero (filling_in b) ≡ true
  pub closed : last ≡ true → finished announced before ≡ true

-- nothing is wrong with it
pub right-passes : {last : Bool} {announced before : ℕ} {b : List ℕ} → Right last announced before b
    → wrong last announced before b ≡ false
unfolding wrong
right-passes {last} {announced} {before} {b} r =
    rw (
      le-ltb (length b) block_bytes r.whole,
      r.checked,
      le-ltb max_payload_bytes announced r.limit,
      eq-eqb (number_in b) before r.number,
      eq-eqb (used_in b) (used_asked announced before) r.used,
      r.filling,
    ) (end last r.closed)
  where
    end : (l : Bool) → (l ≡ true → finished announced before ≡ true)
        → (l && not (finished announced before)) ≡ false
    end true h = rw (h refl)
    end false h = refl

-- the tests of a block, all of which fail
pub record Unmet (short check long number used filling unended : Bool) : Type 0 where
  pub whole : short ≡ false
  pub checked : check ≡ true
  pub limit : long ≡ false
  pub counted : number ≡ true
  pub asked : used ≡ true
  pub clear : filling ≡ true
  pub closed : unended ≡ false

unmet : (short check long number used filling unended : Bool)
    → (short || not check || long || not number || not used || not filling || unended) ≡ false
    → Unmet short check long number used filling unended
unmet false true false true true true false e =
    record {
      whole = refl;
      checked = refl;
      limit = refl;
      counted = refl;
      asked = refl;
      clear = refl;
      closed
          = refl;
    }
unmet true check long number used filling unended e = clash refl e
unmet false false long number used filling unended e = clash refl e
unmet false true true number used filling unended e = clash refl e
unmet false true false false used filling unended e = clash refl e
unmet false true false true false filling unended e = clash refl e
unmet false true false true true false unended e = clash refl e
unmet false true false true true true true e = clash refl e

-- a last block is finished
closes : (last ends : Bool) → (last && not ends) ≡ false → last ≡ true → ends ≡ true
closes last true e l = refl
closes true false e l = clash refl e
closes false false e l = clash l refl

-- and a block with which nothing is wrong is that
pub passes-right : (last : Bool) (announced before : ℕ) (b : List ℕ) → wrong last announced before b ≡ false
    → Right last announced before b
unfolding wrong
passes-right last announced before b e =
    let u = unmet (ltb (length b) block_bytes) (passes b) (ltb max_payload_bytes announced)
    (eqb (number_in b) before) (eqb (used_in b) (used_asked announced before)) (all_zero (filling_in b))
    (last && not (finished announced before)) e in
    record {
      whole = ltb-false _ _ u.whole;
      checked = u.checked;
      limit = ltb-false _ _ u.limit;
      number = eqb-true _ _ u.counted;
      used = eqb-true _ _ u.asked;
      filling = u.clear;
      closed = closes last (finished announced before) u.closed;
    }

-- at most all blocks are right
pub good-most : (announced before : ℕ) (blocks : List (List ℕ)) → good announced before blocks ≤ length blocks
unfolding good
good-most announced before [] = omega arith
good-most announced before (b ∷ rest) =
    let l = announced_by announced before b in
    go (wrong (none_left rest) l before b) (good l (next_before l before) rest)
    (good-most l (next_before l before) rest)
  where
    go : (t : Bool) (n : ℕ) → n ≤ length rest → cond t 0 (suc n) ≤ suc (length rest)
    go true n h = omega arith
    go false n h = omega arith
