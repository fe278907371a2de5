-- Chains of the keys of a chunk, by their buckets, and what marking leaves.
-- Assumes nothing.
-- ---- for the code alone
use Rattle.std.specs.Prelude.{◌≡◌, Bool, true, false, not, ◌&&◌, ◌||◌, List, ℕ, ◌+◌, ◌≤◌, ◌<◌, eqb, length, get_or}
use Rattle.archive_keys.specs.Keys.{bucket_of, beats, chunk, buckets}

-- no bucket has a key yet
pub record NoHeads (heads : List ℕ) : Type 0 where
  pub size : length heads ≡ buckets
  pub empty : (b : ℕ) → get_or heads b 0 ≡ 0

-- the first `count` keys are chained: a bucket's head is the last of its keys, a key's link the one before
-- it in the same bucket; both count from 1
pub record Chained (keys : List ℕ) (count : ℕ) (heads links : List ℕ) : Type 0 where
  pub heads_size : length heads ≡ buckets
  pub links_size : length links ≡ chunk
  pub head-within : (b : ℕ) → get_or heads b 0 ≤ count
  pub head-own : (b m : ℕ) → get_or heads b 0 ≡ m + 1 → bucket_of (get_or keys m 0) ≡ b
  pub head-last : (b m : ℕ) → get_or heads b 0 ≤ m → m < count → bucket_of (get_or keys m 0) ≡ b → ⊥
  pub link_before : (j : ℕ) → j < count → get_or links j 0 ≤ j
  pub link_own : (j m : ℕ) → j < count → get_or links j 0 ≡ m + 1
      → bucket_of (get_or keys m 0) ≡ bucket_of (get_or keys j 0)
  pub link_last : (j m : ℕ) → j < count → get_or links j 0 ≤ m → m < j
      → bucket_of (get_or keys m 0) ≡ bucket_of (get_or keys j 0) → ⊥

-- the keys that one supersedes are marked, and no others
pub record Marked (key : ℕ) (keys : List ℕ) (count : ℕ) (before after : List Bool) : Type 0 where
  pub same_length : length after ≡ length before
  pub marks : (m : ℕ) → m < count → get_or after m false ≡ (get_or before m false || beats key (get_or keys m 0))

-- a key is another's: the same at another place
unfoldable pub elsewhere : ℕ → ℕ → ℕ → ℕ → Bool
elsewhere key index other place = eqb key other && not (eqb index place)

-- whether the key stands at another place than its own
pub record Met (key index first : ℕ) (keys : List ℕ) (count : ℕ) (told : Bool) : Type 0 where
  pub never : told ≡ false → (m : ℕ) → m < count → get_or keys m 0 ≡ key → first + m ≡ index
  pub once : told ≡ true → (m : ℕ) × (m < count) × (get_or keys m 0 ≡ key) × (first + m ≡ index → ⊥)
