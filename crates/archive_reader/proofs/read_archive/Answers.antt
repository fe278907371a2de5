-- `archive_reader::read_archive` meets its contract: one law for each of its answers.
-- Assumes nothing.
use mathlib.Core.Path.{◌≡◌}
use mathlib.Core.Bool.{false}
use mathlib.Core.List.{List}
use Prim.Native.Nat.{ℕ, ◌≤◌}
use native.Mathlib.Omega.{arith}
use Rattle.archive.specs.Block.{Bytes}
use Rattle.archive.specs.Faults.{file_blocks, blocks_in, good_blocks, has_bad}
use Rattle.archive.specs.Listing.{Sound}
use Rattle.archive.proofs.AlteredLaws.{cut-count}
use Rattle.archive.proofs.FaultLaws.{good-most}
use Rattle.archive.proofs.OnlyLaws.{sound}
use Rattle.archive_reader.proofs.AnswerLaws.{read_bad, repeated, read_list, read_storage}
use Rattle.archive_reader.proofs.AnswerLaws.{read-accepted, all-good, no_bad}
use Rattle.archive_reader.proofs.read_archive.Goals.{then-list-contents-via-then-list-contents}
use Rattle.archive_reader.proofs.read_archive.Goals.{then-list-contents-via-else-list-contents+then-out-contents}
use Rattle.archive_reader.proofs.read_archive.Goals as goal

module _ (file : List ℕ) {good count : ℕ} (g : good ≡ good_blocks file) (n : count ≡ blocks_in file)
    (h : count ≤ good) where
  -- all blocks are right
  right : good_blocks file ≡ blocks_in file
  right =
      let l = cut-count (blocks_in file) file in
      let m = good-most 0 0 (file_blocks file) in
      all-good file good count g n h (omega arith)

  none-bad : has_bad file ≡ false
  none-bad = no_bad file right

  -- so a file that consists of bytes is the archive of its recordings
  whole : Bytes file → Sound file
  whole bytes = sound file bytes right

pub returns-then-good-blocks_in : goal.returns-then-good-blocks_in
returns-then-good-blocks_in c =
    read_bad _ _ _ _ _ c.good_blocks-good.ensures c.blocks_in.ensures c.if-good-blocks_in.true

pub invariant_of-sound : goal.invariant_of-sound
invariant_of-sound c =
    let ok = c.if-good-blocks_in.false in
    record {
      sound = whole _ c.good_blocks-good.ensures c.blocks_in.ensures ok (λ i. (c.type_inv.file i).fits);
    }

pub returns-in_err-contents : goal.returns-in_err-contents
returns-in_err-contents c =
    let e = c.in_err-contents.ensures in
    repeated _ _ _ (none-bad _ c.good_blocks-good.ensures c.blocks_in.ensures c.if-good-blocks_in.false) _
    c.from_residual.ensures.1 e.0 e.1

pub returns-then-list-contents : goal.returns-then-list-contents
returns-then-list-contents c =
    let ok = none-bad _ c.good_blocks-good.ensures c.blocks_in.ensures c.if-good-blocks_in.false in
    let e = c.in_ok-contents.ensures in
    let n = e.1.counted in
    let b = e.1.summed in
    elim c.then-list-contents.branch [
      | then-list-contents-via-then-list-contents w ↦ read_list _ _ _ ok e.0 (omega arith)
      | then-list-contents-via-else-list-contents+then-out-contents w ↦
          read_storage _ _ _ ok e.0 (omega arith) (omega arith)
    ]

pub returns : goal.returns
returns c =
    let e = c.in_ok-contents.ensures in
    let n = e.1.counted in
    let b = e.1.summed in
    read-accepted _ _ _ (none-bad _ c.good_blocks-good.ensures c.blocks_in.ensures c.if-good-blocks_in.false)
    e.0 (omega arith) (omega arith) _ _ _ _ n b c.deliver.ensures.list c.deliver.ensures.out
