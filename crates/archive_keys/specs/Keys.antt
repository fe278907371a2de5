-- Document 02 §9: house, start second and issue as one number (Q9.4).
-- Assumes nothing.
-- ---- for the code alone
use Rattle.std.specs.Prelude.{Bool, false, ◌&&◌, ◌||◌, List, [], ◌∷◌, ℕ, ◌+◌, ◌*◌, ◌/◌, ◌%◌, eqb, ltb}
use Rattle.archive.specs.Recording.{Recording}

-- the key of a recording
unfoldable pub key_of : Recording → ℕ
key_of r = (r.house * 4294967296 + r.start) * 65536 + r.issue

unfoldable pub keys_of : List Recording → List ℕ
keys_of [] = []
keys_of (r ∷ rs) = key_of r ∷ keys_of rs

-- a key supersedes another: the same house and start second, and a higher issue
unfoldable pub beats : ℕ → ℕ → Bool
beats key other = eqb (key / 65536) (other / 65536) && ltb other key

-- one of a list does
unfoldable pub beaten : List ℕ → ℕ → Bool
beaten [] other = false
beaten (key ∷ keys) other = beats key other || beaten keys other

-- the bucket of a key
unfoldable pub bucket_of : ℕ → ℕ
bucket_of key = key / 65536 % 8191

-- keys of a chunk, and buckets
abbrev pub chunk : ℕ
chunk = 4096

abbrev pub buckets : ℕ
buckets = 8191
