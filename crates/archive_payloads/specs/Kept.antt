-- The recordings in force up to one of a file, and between two of them.
-- Assumes nothing.
-- ---- for the code alone
use Rattle.std.specs.Prelude.{◌≡◌, Bool, false, cond, List, ℕ, ◌+◌, ◌*◌, ◌/◌, ◌%◌, ◌≤◌, ◌<◌, length, take, drop, get_or}
use Rattle.archive.specs.Recording.{Recording, blocks_for}
use Rattle.archive.specs.Listing.{recordings_of, superseded, not_superseded, payloads}
use Rattle.archive.specs.Places.{At, recording_at}
use Rattle.archive_payloads.specs.declared.Done.{Done}

-- those in force among the first i recordings of a file
abbrev pub kept : List ℕ → ℕ → List Recording
kept file i = not_superseded (recordings_of file) (take i (recordings_of file))

-- those in force among `count` recordings from `first` on
abbrev pub between : List ℕ → ℕ → ℕ → List Recording
between file first count = not_superseded (recordings_of file) (take count (drop first (recordings_of file)))

-- recording i of a file is superseded
abbrev pub superseded_at : List ℕ → ℕ → Bool
superseded_at file i = superseded (recordings_of file) (recording_at file i)

-- a walk has come to recording i
pub record DoneIs (file : List ℕ) (i place recordings bytes : ℕ) : Type 0 where
  pub at : At file place i
  pub counted : recordings ≡ length (kept file i)
  pub summed : bytes ≡ length (payloads (kept file i))
  pub few : 512 * recordings ≤ place
  pub small : bytes ≤ place

-- which recordings of a chunk are superseded
pub record SupersededIs (file : List ℕ) (first count : ℕ) (told : List Bool) : Type 0 where
  pub within : first + count ≤ length (recordings_of file)
  pub room : count ≤ length told
  pub marks : (m : ℕ) → m < count → get_or told m false ≡ superseded_at file (first + m)

-- how many payload bytes stand in one block
pub record PartIs (done payload count : ℕ) : Type 0 where
  pub some : 0 < count
  pub left : done + count ≤ payload
  pub inside : (12 + done) % 504 + count ≤ 504

-- where a payload byte stands in the file
abbrev pub source_of : ℕ → ℕ → ℕ
source_of place done = place + (512 * ((12 + done) / 504) + 4 + (12 + done) % 504)

-- a walk one recording further
pub record CountedIs (done : Done) (superseded : Bool) (payload : ℕ) (r : Done) : Type 0 where
  pub place : r.place ≡ done.place + 512 * blocks_for (12 + payload)
  pub recordings : r.recordings ≡ done.recordings + cond superseded 0 1
  pub bytes : r.bytes ≡ done.bytes + cond superseded 0 payload
