-- Document 02 §9: the archive's promises, as statements over the definitions of its two entries (Q9.7 to
-- Q9.9).
-- Assumes nothing.
use Rattle.std.specs.Prelude.{◌≡◌, true, false, List, [], ◌∷◌, ◌++◌, ℕ, ◌*◌, ◌/◌, ◌≤◌, ◌<◌, length, take, get_or, set}
use Rattle.archive.specs.Block.{block_bytes, Bytes, passes}
use Rattle.archive.specs.Recording.{Recording, InSpan, AllInSpan, archive}
use Rattle.archive.specs.Listing.{in_force, twice, payloads}
use Rattle.archive_writer.specs.Write.{WriteTold, write_entry}
use Rattle.archive_reader.specs.Read.{refuse_read, tell_read, read_entry}

-- "A block with one byte altered must never pass" (Q9.7): every place 0 to 511, every other byte
abbrev pub OneByteNeverPasses : Type 0
OneByteNeverPasses =
    (block : List ℕ) (i byte : ℕ) → length block ≡ block_bytes → passes block ≡ true → i < block_bytes
    → (get_or block i 0 ≡ byte → ⊥) → passes (set block i byte) ≡ false

-- of an accepted file with one byte altered, anywhere, the reader refuses the block that holds the byte
-- (Q9.7)
abbrev pub AlteredFileRefused : Type 0
AlteredFileRefused =
    (file list storage list' storage' : List ℕ) (i byte : ℕ) → (read_entry file list storage).refusal ≡ 0
    → i < length file → (get_or file i 0 ≡ byte → ⊥)
    → read_entry (set file i byte) list' storage' ≡ refuse_read list' storage' 18 (i / 512)

-- the bytes that the writer wrote
abbrev pub written : WriteTold → List ℕ
written told = take told.bytes told.out

-- what the writer makes of recordings, one after the other, each into storage of its own that is long enough
pub data Written : List Recording → List ℕ → Type 0 where
  none : Written [] []
  more : {r : Recording} {rs : List Recording} {file : List ℕ} (out : List ℕ) → (write_entry r out).refusal ≡ 0
      → Written rs file → Written (r ∷ rs) (written (write_entry r out) ++ file)

-- "reading what was archived, no two recordings agreeing in house, start second and issue, returns the
-- payload of each one in force" (Q9.8), into any list and storage that are long enough
abbrev pub ReadBack : Type 0
ReadBack =
    (rs : List Recording) (file list storage : List ℕ) → AllInSpan rs → twice rs ≡ false → Written rs file
    → 4 * length (in_force rs) ≤ length list → length (payloads (in_force rs)) ≤ length storage
    → read_entry file list storage ≡ tell_read list storage (in_force rs)

-- the writer writes every recording in span, into any storage that is long enough
abbrev pub WritesInSpan : Type 0
WritesInSpan =
    (r : Recording) (out : List ℕ) → InSpan r → length (archive (r ∷ [])) ≤ length out
    → (write_entry r out).refusal ≡ 0

-- every accepted file is what the writer makes of recordings, no two of which agree, and of no others (Q9.9)
pub record IsArchive (file : List ℕ) : Type 0 where
  pub recordings : List Recording
  pub in_span : AllInSpan recordings
  pub apart : twice recordings ≡ false
  pub written : Written recordings file
  pub no_others : (others : List Recording) → AllInSpan others → Written others file → others ≡ recordings

abbrev pub OnlyArchives : Type 0
OnlyArchives =
    (file list storage : List ℕ) → Bytes file → (read_entry file list storage).refusal ≡ 0 → IsArchive file
