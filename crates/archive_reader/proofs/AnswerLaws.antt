-- The answers of the reader, one law for each.
-- Assumes nothing.
use mathlib.Core.Path.{◌≡◌, ◌∙◌}
use mathlib.Core.Bool.{true, false}
use mathlib.Core.List.{List}
use Prim.Native.Nat.{ℕ, ◌*◌, ◌≤◌, ◌<◌}
use native.Mathlib.Omega.{arith}
use borrow.Author.Tests.{lt-ltb, le-ltb}
use lib.ListN.{length}
use Rattle.std.specs.Prelude.{Result, Ok, Err}
use Rattle.std.specs.Result.{IsErrAnd}
use Rattle.overlay.specs.Overlay.{overlay}
use Rattle.archive.specs.Faults.{blocks_in, good_blocks, has_bad}
use Rattle.archive.specs.Listing.{recordings_of, in_force, twice, listed, payloads}
use Rattle.archive_reader.specs.Read.{view_read, refuse_read, tell_read, read_entry}
use Rattle.archive_reader.specs.declared.Contents.{Contents}
use Rattle.archive_reader.specs.declared.ArchiveFault.{ArchiveFault}

module _ (file list storage : List ℕ) where
  -- 18, with the block
  pub read_bad : (good count : ℕ) → good ≡ good_blocks file → count ≡ blocks_in file → good < count
      → refuse_read list storage 18 good ≡ read_entry file list storage
  unfolding read_entry
  read_bad good count e n h = rw (e, lt-ltb (good_blocks file) (blocks_in file) (omega arith))

  module _ (ok : has_bad file ≡ false) where
    -- 19
    pub read_twice : twice (recordings_of file) ≡ true
        → refuse_read list storage 19 0 ≡ read_entry file list storage
    unfolding read_entry
    read_twice t = rw (ok, t)

    -- where counting told it
    pub repeated : (r : Result Contents ArchiveFault) {fault : ArchiveFault} → IsErrAnd r (λ y. y ≡ fault)
        → twice (recordings_of file) ≡ true → fault ≡ ArchiveFault.RecordingTwice
        → view_read r list storage ≡ read_entry file list storage
    repeated (Ok contents) h t e = absurd h
    repeated (Err fault) h t e = rw (h ∙ e) (read_twice t)

    module _ (apart : twice (recordings_of file) ≡ false) where
      -- 11: too short a list
      pub read_list : length list < 4 * length (in_force (recordings_of file))
          → refuse_read list storage 11 0 ≡ read_entry file list storage
      unfolding read_entry
      read_list h = rw (ok, apart, lt-ltb (length list) (4 * length (in_force (recordings_of file))) h)

      -- 11: too little storage
      pub read_storage : 4 * length (in_force (recordings_of file)) ≤ length list
          → length storage < length (payloads (in_force (recordings_of file)))
          → refuse_read list storage 11 0 ≡ read_entry file list storage
      unfolding read_entry
      read_storage g h = rw (
        ok,
        apart,
        le-ltb (length list) (4 * length (in_force (recordings_of file))) g,
        lt-ltb (length storage) (length (payloads (in_force (recordings_of file)))) h,
      )

      -- accepted
      pub read_told : 4 * length (in_force (recordings_of file)) ≤ length list
          → length (payloads (in_force (recordings_of file))) ≤ length storage
          → tell_read list storage (in_force (recordings_of file)) ≡ read_entry file list storage
      unfolding read_entry
      read_told g h = rw (
        ok,
        apart,
        le-ltb (length list) (4 * length (in_force (recordings_of file))) g,
        le-ltb (length storage) (length (payloads (in_force (recordings_of file)))) h,
      )

      -- with what the code counted and laid
      pub read-accepted : 4 * length (in_force (recordings_of file)) ≤ length list
          → length (payloads (in_force (recordings_of file))) ≤ length storage
          → (recordings bytes : ℕ) (list' storage' : List ℕ)
          → recordings ≡ length (in_force (recordings_of file))
          → bytes ≡ length (payloads (in_force (recordings_of file)))
          → list' ≡ overlay list 0 (listed (in_force (recordings_of file)))
          → storage' ≡ overlay storage 0 (payloads (in_force (recordings_of file)))
          → record {
            refusal = 0;
            block = 0;
            recordings = recordings;
            bytes = bytes;
            list = list';
            payloads
                = storage';
          }
          ≡ read_entry file list storage
      read-accepted g h recordings bytes list' storage' n b l s = rw (n, b, l, s) (read_told g h)

-- the whole file is right where no block is bad
pub all-good : (file : List ℕ) (good count : ℕ) → good ≡ good_blocks file → count ≡ blocks_in file
    → count ≤ good
    → good_blocks file ≤ blocks_in file → good_blocks file ≡ blocks_in file
all-good file good count e n h g = omega arith

pub no_bad : (file : List ℕ) → good_blocks file ≡ blocks_in file → has_bad file ≡ false
no_bad file e = le-ltb (good_blocks file) (blocks_in file) (omega arith)
