-- A chunk of the recordings of a file: its keys, which of them are superseded, and whether one stands at
-- another place too.
-- Assumes nothing.
-- ---- for the code alone
use Rattle.std.specs.Prelude.{◌≡◌, Bool, true, false, List, ℕ, ◌+◌, ◌*◌, ◌≤◌, ◌<◌, length, get_or}
use Rattle.archive.specs.Listing.{recordings_of, superseded, twice}
use Rattle.archive.specs.Places.{At, recording_at}
use Rattle.archive_keys.specs.Keys.{keys_of, beaten, chunk}

-- a key from its parts
abbrev pub KeyIs : ℕ → ℕ → ℕ → ℕ → Type 0
KeyIs house start issue key = key ≡ (house * 4294967296 + start) * 65536 + issue

-- the keys of a file's recordings
abbrev pub file_keys : List ℕ → List ℕ
file_keys file = keys_of (recordings_of file)

-- the keys of the recordings from `first` on are loaded, as many as a chunk has or the file
pub record LoadedIs (file : List ℕ) (at first : ℕ) (loaded : List ℕ) (count next : ℕ) : Type 0 where
  pub few : count ≤ chunk
  pub some : at < length file → 0 < count
  pub place : At file next (first + count)
  pub keys : (m : ℕ) → m < count → get_or loaded m 0 ≡ get_or (file_keys file) (first + m) 0

-- no key is marked
abbrev pub Unmarked : ℕ → List Bool → Type 0
Unmarked count marks = (m : ℕ) → m < count → get_or marks m false ≡ false

-- those that a recording of the file supersedes are
abbrev pub MarkedAll : List ℕ → List ℕ → ℕ → List Bool → Type 0
MarkedAll file keys count marks =
    (m : ℕ) → m < count → get_or marks m false ≡ beaten (file_keys file) (get_or keys m 0)

-- whether a recording of the file has the key of one of the chunk and stands at another place
pub record MetAll (file : List ℕ) (first : ℕ) (keys : List ℕ) (count : ℕ) (told : Bool) : Type 0 where
  pub never : told ≡ false → (q m : ℕ) → q < length (file_keys file) → m < count
      → get_or keys m 0 ≡ get_or (file_keys file) q 0 → first + m ≡ q
  pub once : told ≡ true → (q : ℕ) × (m : ℕ) × (q < length (file_keys file)) × (m < count)
      × (get_or keys m 0 ≡ get_or (file_keys file) q 0) × (first + m ≡ q → ⊥)

-- a chunk: its recordings from `first` on, which of them are superseded, and whether one is there twice
pub record ChunkIs (file : List ℕ) (at first count next : ℕ) (told : Bool) (marked : List Bool) : Type 0 where
  pub few : count ≤ chunk
  pub size : length marked ≡ chunk
  pub some : at < length file → 0 < count
  pub place : At file next (first + count)
  pub marks : (m : ℕ) → m < count
      → get_or marked m false ≡ superseded (recordings_of file) (recording_at file (first + m))
  pub never : told ≡ false → (q m : ℕ) → q < length (file_keys file) → m < count
      → get_or (file_keys file) (first + m) 0 ≡ get_or (file_keys file) q 0 → first + m ≡ q
  pub once : told ≡ true → twice (recordings_of file) ≡ true
