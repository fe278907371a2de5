-- Document 02 §9: what the reader of an archive answers, and what the lent storage then holds (Q9.5, Q9.6).
-- Assumes nothing.
use Rattle.std.specs.Prelude.{◌≡◌, Bool, true, false, ◌||◌, cond, List, ℕ, ◌*◌, ◌≤◌, Result, Ok, Err, ltb, length}
use Rattle.answers.specs.declared.Refusal.{Refusal}
use Rattle.answers.specs.Numbers.{number_of}
use Rattle.overlay.specs.Overlay.{overlay}
use Rattle.archive.specs.Recording.{Recording}
use Rattle.archive.specs.Faults.{good_blocks, has_bad}
use Rattle.archive.specs.Listing.{recordings_of, in_force, twice, listed, payloads}
use Rattle.archive_reader.specs.declared.Contents.{Contents}
use Rattle.archive_reader.specs.declared.ArchiveFault.{ArchiveFault}

-- the refusal's number (0: accepted), the bad block, recordings in force, their payload bytes; and the lent
-- list and storage
pub record ReadTold : Type 0 where
  pub refusal : ℕ
  pub block : ℕ
  pub recordings : ℕ
  pub bytes : ℕ
  pub list : List ℕ
  pub payloads : List ℕ

-- "short storage is 11": four numbers for each recording in force, and their payloads
abbrev pub short_storage : List Recording → ℕ → ℕ → Bool
short_storage force numbers bytes = ltb numbers (4 * length force) || ltb bytes (length (payloads force))

-- a refusal writes nothing; 18 comes with the block
abbrev pub refuse_read : List ℕ → List ℕ → ℕ → ℕ → ReadTold
refuse_read list storage number block =
    record { refusal = number; block = block; recordings = 0; bytes = 0; list = list; payloads = storage }

-- which refusal a fault is, and the block that it comes with
abbrev pub refusal_of : ArchiveFault → Refusal
refusal_of (ArchiveFault.BadBlock block) = Refusal.BadBlock
refusal_of ArchiveFault.RecordingTwice = Refusal.RecordingTwice
refusal_of ArchiveFault.OutputTooShort = Refusal.OutputTooShort

abbrev pub block_of : ArchiveFault → ℕ
block_of (ArchiveFault.BadBlock block) = block
block_of ArchiveFault.RecordingTwice = 0
block_of ArchiveFault.OutputTooShort = 0

-- the entry's answer, with list and storage as they are left
abbrev pub view_read : Result Contents ArchiveFault → List ℕ → List ℕ → ReadTold
view_read (Ok contents) list storage = record {
  refusal = 0;
  block = 0;
  recordings = contents.recordings;
  bytes = contents.bytes;
  list = list;
  payloads = storage;
}
view_read (Err fault) list storage = refuse_read list storage (number_of (refusal_of fault)) (block_of fault)

-- the list and the payloads of those in force, from the first place on; what stands behind keeps its values
abbrev pub tell_read : List ℕ → List ℕ → List Recording → ReadTold
tell_read list storage force = record {
  refusal = 0;
  block = 0;
  recordings = length force;
  bytes = length (payloads force);
  list = overlay list 0 (listed force);
  payloads = overlay storage 0 (payloads force);
}

-- what the reader answers: 18 "with the first block, counted from 0"; "19 .. tested after all 18s"; "short
-- storage is 11, in the reader after 19"
unfoldable pub read_entry : List ℕ → List ℕ → List ℕ → ReadTold
read_entry file list storage =
    let force = in_force (recordings_of file) in
    cond (has_bad file) (refuse_read list storage 18 (good_blocks file))
    (cond (twice (recordings_of file)) (refuse_read list storage 19 0)
    (cond (short_storage force (length list) (length storage)) (refuse_read list storage 11 0)
    (tell_read list storage force)))

-- ---- for the code alone

-- what is counted of a file without a bad block
pub record ContentsAre (file : List ℕ) (recordings bytes : ℕ) : Type 0 where
  pub counted : recordings ≡ length (in_force (recordings_of file))
  pub summed : bytes ≡ length (payloads (in_force (recordings_of file)))
  pub few : 512 * recordings ≤ length file

-- which is told where no recording is there twice
abbrev pub CountsAre : List ℕ → Result Contents ArchiveFault → Type 0
CountsAre file (Ok contents) =
    (twice (recordings_of file) ≡ false) × ContentsAre file contents.recordings contents.bytes
CountsAre file (Err fault) = (twice (recordings_of file) ≡ true) × (fault ≡ ArchiveFault.RecordingTwice)
