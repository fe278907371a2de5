-- Where the recordings of a file stand.
-- Assumes nothing.
-- ---- for the code alone
use Rattle.std.specs.Prelude.{◌≡◌, List, [], ℕ, ◌≤◌, length, drop, get_or}
use Rattle.archive.specs.Block.{number_at}
use Rattle.archive.specs.Recording.{Recording, archive}
use Rattle.archive.specs.Listing.{recordings_of}

-- what stands where a list of recordings has none
abbrev pub no_recording : Recording
no_recording = record { house = 0; start = 0; issue = 0; payload = [] }

-- recording i of a file
abbrev pub recording_at : List ℕ → ℕ → Recording
recording_at file i = get_or (recordings_of file) i no_recording

-- recording i of a file stands at a place, or the file ends there after i recordings
pub record At (file : List ℕ) (place i : ℕ) : Type 0 where
  pub rest : drop place file ≡ archive (drop i (recordings_of file))
  pub inside : place ≤ length file
  pub within : i ≤ length (recordings_of file)

-- the four numbers before a payload, where a recording stands
pub record HeadAt (bytes : List ℕ) (h s i n : ℕ) : Type 0 where
  pub house : h ≡ number_at bytes 4 2
  pub start : s ≡ number_at bytes 6 4
  pub issue : i ≡ number_at bytes 10 2
  pub payload : n ≡ number_at bytes 12 4

-- which are those of a recording
pub record HeadOf (r : Recording) (h s i n : ℕ) : Type 0 where
  pub house : h ≡ r.house
  pub start : s ≡ r.start
  pub issue : i ≡ r.issue
  pub payload : n ≡ length r.payload
