-- A file without a bad block is the archive of the recordings that it holds (Q9.9).
-- Assumes nothing.
use mathlib.Core.Path.{◌≡◌, refl, sym, ap, ◌∙◌}
use mathlib.Core.Bool.{Bool, true, false}
use mathlib.Core.List.{List, [], ◌∷◌, ◌++◌, append_assoc}
use Prim.Native.Nat.{ℕ, zero, suc, ◌+◌, ◌≤◌, ◌<◌}
use native.Mathlib.Omega.{arith}
use lib.ListN.{length}
use Rattle.answers.proofs.TestLaws.{clash}
use Rattle.archive.specs.Block.{Bytes, block_bytes, data_in}
use Rattle.archive.specs.Recording.{AllInSpan}
use Rattle.archive.specs.Recording.{numbered, joined, archive_blocks}
use Rattle.archive.specs.Faults.{announced_by, finished, none_left, next_before, blocks_in}
use Rattle.archive.specs.Faults.{good, good_blocks}
use Rattle.archive.specs.Listing.{recordings_from, Sound}
use Rattle.archive.proofs.AlteredLaws.{rest-right, right-first, cut-count}
use Rattle.archive.proofs.FaultLaws.{Right}
use Rattle.archive.proofs.FileLaws.{file-back, Sized, sized_cut}
use Rattle.archive.proofs.BegunLaws.{Begun, begun-none, begun-on, ended-span, ended-blocks, more-blocks}

-- ---- all blocks

-- what has begun and the blocks to come are the archive of the recordings that they hold
pub record Only (acc : List ℕ) (a before : ℕ) (blocks : List (List ℕ)) : Type 0 where
  pub same : numbered before 0 acc ++ blocks ≡ archive_blocks (recordings_from acc a before blocks)
  pub in_span : AllInSpan (recordings_from acc a before blocks)

-- where no block is left, nothing has begun
only_none : (acc : List ℕ) (a before : ℕ) → (0 < before → none_left [] ≡ false) → Only acc a before []
unfolding recordings_from archive_blocks numbered
only_none acc a zero h = record { same = refl; in_span = AllInSpan.none }
only_none acc a (suc before) h = clash refl (h (omega arith))

snoc_append : (xs : List (List ℕ)) (b : List ℕ) (ys : List (List ℕ)) → (xs ++ (b ∷ [])) ++ ys ≡ xs ++ (b ∷ ys)
snoc_append xs b ys = append_assoc xs (b ∷ []) ys

module _ (a before : ℕ) (acc b : List ℕ) (rest : List (List ℕ)) (begun : Begun a before acc)
    (r : Right (none_left rest) (announced_by a before b) before b) (few : length b ≤ block_bytes)
    (bytes : Bytes b) where
  only-ended : finished (announced_by a before b) before ≡ true → Only [] (announced_by a before b) 0 rest
      → Only acc a before (b ∷ rest)
  unfolding recordings_from archive_blocks numbered
  only-ended q o =
      let s = o.same in
      let made = ended-blocks a before acc b rest begun r few bytes q in
      record {
        same = rw (q, made, ← s) (sym (snoc_append (numbered before 0 acc) b rest));
        in_span = rw q (AllInSpan.more (ended-span a before acc b rest begun r few bytes q) o.in_span);
      }

  only-on : finished (announced_by a before b) before ≡ false
      → Only (acc ++ data_in b) (announced_by a before b) (before + 1) rest → Only acc a before (b ∷ rest)
  unfolding recordings_from
  only-on q o =
      let s = o.same in
      record {
        same = rw (q, ← s, more-blocks a before acc b rest begun r few bytes)
            (sym (snoc_append (numbered before 0 acc) b rest));
        in_span = rw q o.in_span;
      }

  -- it ends or it goes on
  only_step : (finished (announced_by a before b) before ≡ true → Only [] (announced_by a before b) 0 rest)
      → (finished (announced_by a before b) before ≡ false
      → Only (acc ++ data_in b) (announced_by a before b) (before + 1) rest)
      → Only acc a before (b ∷ rest)
  only_step ended on = go (finished (announced_by a before b) before) refl
    where
      go : (t : Bool) → finished (announced_by a before b) before ≡ t → Only acc a before (b ∷ rest)
      go true q = only-ended q (ended q)
      go false q = only-on q (on q)

  -- a block is left where it goes on
  more_left : finished (announced_by a before b) before ≡ false → none_left rest ≡ false
  more_left q = go (none_left rest) refl
    where
      go : (t : Bool) → none_left rest ≡ t → t ≡ false
      go true p = clash (r.closed p) q
      go false p = refl

next-ended : (l before : ℕ) → finished l before ≡ true → next_before l before ≡ 0
next-ended l before q = rw q

next-on : (l before : ℕ) → finished l before ≡ false → next_before l before ≡ before + 1
next-on l before q = rw q

only : (a before : ℕ) (acc : List ℕ) {blocks : List (List ℕ)} → Sized blocks → Begun a before acc
    → good a before blocks ≡ length blocks → (0 < before → none_left blocks ≡ false) → Only acc a before blocks
only a before acc Sized.none begun e h = only_none acc a before h
only a before acc (Sized.more {b} {bs = rest} few bytes sized) begun e h =
    let l = announced_by a before b in
    let r = right-first a before b rest e in
    let on = rest-right a before b rest e in
    only_step a before acc b rest begun r few bytes
    (λ q. only l 0 [] sized (begun-none l) (rw (next-ended l before q) at on) (λ k. absurd (omega arith)))
    (λ q. only l (before + 1) (acc ++ data_in b) sized (begun-on a before acc b rest begun r few bytes q)
    (rw (next-on l before q) at on) (λ k. more_left a before acc b rest begun r few bytes q))

-- every file of bytes without a bad block is the archive of its recordings, each in span
pub sound : (file : List ℕ) → Bytes file → good_blocks file ≡ blocks_in file → Sound file
unfolding numbered
sound file bytes e =
    let o = only 0 0 [] (sized_cut (blocks_in file) file bytes) (begun-none 0) (e
    ∙ sym (cut-count (blocks_in file) file))
    (λ h. absurd (omega arith)) in
    record { same = sym (file-back file) ∙ ap joined o.same; in_span = o.in_span }
