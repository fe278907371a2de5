-- The archive's promises (specs/Archived.antt).
-- Assumes nothing.
use mathlib.Core.Path.{◌≡◌, refl, sym, ap, ap₂, subst, ◌∙◌}
use mathlib.Core.Bool.{Bool, true, false, cond}
use mathlib.Core.List.{List, [], ◌++◌}
use Prim.Native.Nat.{ℕ, ◌/◌, ◌≤◌}
use native.Mathlib.Omega.{arith}
use borrow.Author.Tests.{ltb-true, ltb-false}
use lib.Dec.{ltb}
use lib.ListN.{length, set, length-append, length-set}
use Rattle.answers.specs.Limits.{max_payload_bytes}
use Rattle.overlay.proofs.OverlayLaws.{overlay_take}
use Rattle.archive.specs.Recording.{Recording, AllInSpan, recording_bytes, joined, archive_blocks}
use Rattle.archive.specs.Recording.{archive}
use Rattle.archive.specs.Faults.{blocks_in, file_blocks, good_blocks, has_bad}
use Rattle.archive.specs.Listing.{recordings_of, in_force, twice}
use Rattle.archive.proofs.AlteredLaws.{altered_file, cut-count}
use Rattle.archive.proofs.ArchivedLaws.{archived_good, archived_recordings}
use Rattle.archive.proofs.CheckLaws.{altered_fails}
use Rattle.archive.proofs.FaultLaws.{good-most}
use Rattle.archive.proofs.OnlyLaws.{sound}
use Rattle.archive.proofs.PlaceLaws.{archive_cons}
use Rattle.archive_writer.specs.Write.{WriteTold, write_entry}
use Rattle.archive_writer.proofs.WriteLaws.{bytes-asked, write_long, write_short, write_told}
use Rattle.archive_reader.specs.Read.{read_entry, short_storage, refuse_read, tell_read}
use Rattle.archive_reader.proofs.AnswerLaws.{read_bad, read_told, no_bad}
use Rattle.archived.specs.Archived.{OneByteNeverPasses, AlteredFileRefused, written, Written, ReadBack}
use Rattle.archived.specs.Archived.{WritesInSpan, OnlyArchives}

-- Q9.7, a block
pub one_byte-never-passes : OneByteNeverPasses
one_byte-never-passes block i byte size p h d = altered_fails block i byte size p h d

-- ---- what is accepted

-- a file that the reader accepts has no bad block and no recording twice
record Accepted (file : List ℕ) : Type 0 where
  pub right : good_blocks file ≡ blocks_in file
  pub apart : twice (recordings_of file) ≡ false

accepted : (file list storage : List ℕ) → (read_entry file list storage).refusal ≡ 0 → Accepted file
unfolding read_entry
accepted file list storage e =
    go (has_bad file) (twice (recordings_of file))
    (short_storage force (length list) (length storage)) refl refl e
  where
    force : List Recording
    force = in_force (recordings_of file)

    whole : has_bad file ≡ false → good_blocks file ≡ blocks_in file
    whole q =
        let n = cut-count (blocks_in file) file in
        let m = good-most 0 0 (file_blocks file) in
        let h = ltb-false (good_blocks file) (blocks_in file) q in
        omega arith

    go : (bad double short : Bool) → has_bad file ≡ bad → twice (recordings_of file) ≡ double
        → (cond bad (refuse_read list storage 18 (good_blocks file)) (cond double (refuse_read list storage 19 0)
        (cond short (refuse_read list storage 11 0) (tell_read list storage (in_force (recordings_of file)))))
        ).refusal ≡ 0
        → Accepted file
    go true double short q t e = absurd (omega arith)
    go false true short q t e = absurd (omega arith)
    go false false short q t e = record { right = whole q; apart = t }

-- Q9.7, a file
pub altered_file-refused : AlteredFileRefused
altered_file-refused file list storage list' storage' i byte e h d =
    let a = accepted file list storage e in
    let g = altered_file file i byte a.right h d in
    let n = length-set file i byte in
    sym (read_bad (set file i byte) list' storage' (i / 512) (blocks_in (set file i byte)) (sym g) refl
    (omega arith))

-- ---- what is written

-- what the writer wrote are the recording's blocks
written-told : (r : Recording) (out : List ℕ) → length r.payload ≤ max_payload_bytes
    → length (recording_bytes r) ≤ length out
    → written (write_entry r out) ≡ recording_bytes r
written-told r out h l = ap written (write_told r out h l) ∙ overlay_take out (recording_bytes r)

written_is : (r : Recording) (out : List ℕ) → (write_entry r out).refusal ≡ 0
    → written (write_entry r out) ≡ recording_bytes r
written_is r out e =
    go (ltb max_payload_bytes (length r.payload)) (ltb (length out) (length (recording_bytes r))) refl refl
  where
    go : (long short : Bool) → ltb max_payload_bytes (length r.payload) ≡ long
        → ltb (length out) (length (recording_bytes r)) ≡ short → written (write_entry r out) ≡ recording_bytes r
    go true short p q =
        absurd (let z = ap (λ (t : WriteTold). t.refusal) (write_long r out (ltb-true _ _ p)) in omega arith)
    go false true p q =
        let n = bytes-asked r in
        let s = ltb-true (length out) (length (recording_bytes r)) q in
        absurd (let z = ap (λ (t : WriteTold). t.refusal)
        (write_short r out (ltb-false _ _ p) (omega arith)) in omega arith)
    go false false p q = written-told r out (ltb-false _ _ p) (ltb-false _ _ q)

-- so those of several are their archive
file-is : {rs : List Recording} {file : List ℕ} → Written rs file → file ≡ archive rs
unfolding archive_blocks joined
file-is Written.none = refl
file-is (Written.more {r} {rs} out e w) = ap₂ (λ (a b : List ℕ). a ++ b) (written_is r out e) (file-is w)
    ∙ sym (archive_cons r rs)

-- Q9.8
pub read_back_lem : ReadBack
read_back_lem rs file list storage all apart w g h =
    rw (file-is w) (sym (rw same at (read_told (archive rs) list storage
    (no_bad (archive rs) (archived_good rs all)) (rw same apart) (rw same g) (rw same h))))
  where
    same : recordings_of (archive rs) ≡ rs
    same = archived_recordings rs all

-- ---- every recording is written, and nothing else is read

pub writes-in_span : WritesInSpan
writes-in_span r out s h =
    let n = ap length (archive_cons r []) in
    let m = length-append (recording_bytes r) (archive []) in
    ap (λ (t : WriteTold). t.refusal) (write_told r out s.length (omega arith))

-- an archive is what the writer makes of its recordings
written_all : {rs : List Recording} → AllInSpan rs → Written rs (archive rs)
unfolding archive_blocks joined
written_all AllInSpan.none = Written.none
written_all (AllInSpan.more {r} {rs} s all) =
    let out = recording_bytes r in
    let told = write_told r out s.length (omega arith) in
    rw (archive_cons r rs, ← written-told r out s.length (omega arith))
    (Written.more out (ap (λ (t : WriteTold). t.refusal) told) (written_all all))

-- Q9.9
pub only_archives : OnlyArchives
only_archives file list storage bytes e =
    let a = accepted file list storage e in
    let s = sound file bytes a.right in
    record {
      recordings = recordings_of file;
      in_span = s.in_span;
      apart = a.apart;
      written = subst (λ (f : List ℕ). Written (recordings_of file) f) (sym s.same)
          (written_all s.in_span);
      no_others = λ others all w. sym (ap recordings_of (file-is w) ∙ archived_recordings others all);
    }
