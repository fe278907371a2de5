-- The four answers of `read_call`, by what the reader told.
-- Assumes nothing.
use mathlib.Core.Path.{◌≡◌}
use mathlib.Core.List.{List, [], ◌∷◌}
use Prim.Native.Nat.{ℕ, ◌≤◌, ◌<◌}
use borrow.Author.Tests.{lt-ltb, le-ltb}
use lib.ListN.{length}
use Rattle.overlay.specs.Overlay.{overlay}
use Rattle.std.specs.Prelude.{Ok, Err}
use Rattle.archive_reader.specs.declared.Contents.{Contents}
use Rattle.archive_reader.specs.declared.ArchiveFault.{ArchiveFault}
use Rattle.archive_reader.specs.Read.{view_read, read_entry}
use Rattle.archive_slots.specs.ArchiveSlots.{low_bits, read_call}

module _ (file list payloads answer : List ℕ) where
  -- fewer than 2 slots: 6, and nothing is written
  pub short_answer : length answer < 2 → read_call file list payloads answer ≡ record { refusal = 6; list = list; payloads = payloads; answer = answer }
  unfolding read_call
  short_answer h = rw (lt-ltb (length answer) 2 h)

  -- with slots enough, the reader told its answer
  module _ (listed stored : List ℕ) (enough : 2 ≤ length answer) where
    -- accepted: the slots hold recordings in force and payload bytes
    pub read-laid : (x : Contents) (laid : List ℕ) → view_read (Ok x) listed stored ≡ read_entry file list payloads
        → laid ≡ overlay answer 0 (low_bits x.recordings ∷ low_bits x.bytes ∷ [])
        → record { refusal = 0; list = listed; payloads = stored; answer = laid } ≡ read_call file list payloads answer
    unfolding read_call
    read-laid x laid told l = rw (← told, le-ltb (length answer) 2 enough, l)

    -- 18: the slots hold the bad block and 0
    pub read_bad : (block : ℕ) (laid : List ℕ)
        → view_read (Err (ArchiveFault.BadBlock block)) listed stored ≡ read_entry file list payloads
        → laid ≡ overlay answer 0 (low_bits block ∷ 0 ∷ [])
        → record { refusal = 18; list = listed; payloads = stored; answer = laid } ≡ read_call file list payloads answer
    unfolding read_call
    read_bad block laid told l = rw (← told, le-ltb (length answer) 2 enough, l)

    -- any other refusal: the slots are as they were
    pub read-twice : view_read (Err ArchiveFault.RecordingTwice) listed stored ≡ read_entry file list payloads
        → record { refusal = 19; list = listed; payloads = stored; answer = answer } ≡ read_call file list payloads answer
    unfolding read_call
    read-twice told = rw (← told, le-ltb (length answer) 2 enough)

    pub storage-short : view_read (Err ArchiveFault.OutputTooShort) listed stored ≡ read_entry file list payloads
        → record { refusal = 11; list = listed; payloads = stored; answer = answer } ≡ read_call file list payloads answer
    unfolding read_call
    storage-short told = rw (← told, le-ltb (length answer) 2 enough)
