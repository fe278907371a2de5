-- Document 02 §9: the recordings of a file, and those in force (Q9.4, Q9.5).
-- Assumes nothing.
use Rattle.std.specs.Prelude.{◌≡◌, Bool, false, ◌&&◌, ◌||◌, cond, List, [], ◌∷◌, ◌++◌, ℕ, ◌+◌, eqb, ltb, length}
use Rattle.archive.specs.Block.{data_in}
use Rattle.archive.specs.Recording.{Recording, AllInSpan, of_stream, archive}
use Rattle.archive.specs.Faults.{file_blocks, announced_by, finished}

-- the recordings that blocks hold, where none is bad: `s` is what those of the recording so far hold
unfoldable pub recordings_from : List ℕ → ℕ → ℕ → List (List ℕ) → List Recording
recordings_from s announced before [] = []
recordings_from s announced before (block ∷ rest) =
    let l = announced_by announced before block in
    cond (finished l before) (of_stream (s ++ data_in block) ∷ recordings_from [] l 0 rest)
    (recordings_from (s ++ data_in block) l (before + 1) rest)

abbrev pub recordings_of : List ℕ → List Recording
recordings_of file = recordings_from [] 0 0 (file_blocks file)

-- what a file is that has no bad block: the archive of its recordings, each in span (Q9.9)
pub record Sound (file : List ℕ) : Type 0 where
  pub same : file ≡ archive (recordings_of file)
  pub in_span : AllInSpan (recordings_of file)

-- "A recording supersedes one of the same house and start second if its issue is higher"
unfoldable pub supersedes : Recording → Recording → Bool
supersedes later r = eqb later.house r.house && eqb later.start r.start && ltb r.issue
    later.issue

-- one of a list does
unfoldable pub superseded : List Recording → Recording → Bool
superseded [] r = false
superseded (other ∷ rs) r = supersedes other r || superseded rs r

-- those of a list that none of a file supersedes, in their order
unfoldable pub not_superseded : List Recording → List Recording → List Recording
not_superseded file [] = []
not_superseded file (r ∷ rs) = cond (superseded file r) (not_superseded file rs) (r ∷ not_superseded file rs)

-- "List those in force in file order"
abbrev pub in_force : List Recording → List Recording
in_force rs = not_superseded rs rs

-- the same house, start second and issue
unfoldable pub agree : Recording → Recording → Bool
agree r other = eqb r.house other.house && eqb r.start other.start && eqb r.issue
    other.issue

-- one of a list agrees with a recording
unfoldable pub holds : List Recording → Recording → Bool
holds [] r = false
holds (other ∷ rs) r = agree r other || holds rs r

-- "the same house, start second and issue twice"
unfoldable pub twice : List Recording → Bool
twice [] = false
twice (r ∷ rs) = holds rs r || twice rs

-- the numbers that the list has of recordings, four each
unfoldable pub listed : List Recording → List ℕ
listed [] = []
listed (r ∷ rs) = r.house ∷ r.start ∷ r.issue ∷ length r.payload ∷ listed rs

-- their payloads, one behind the other
unfoldable pub payloads : List Recording → List ℕ
payloads [] = []
payloads (r ∷ rs) = r.payload ++ payloads rs
