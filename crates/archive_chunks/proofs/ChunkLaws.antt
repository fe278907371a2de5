-- A chunk: what its loading, its chains and the walk for it start from, and what they make.
-- Assumes nothing.
use mathlib.Core.Path.{◌≡◌, refl, sym, ap, ◌∙◌}
use mathlib.Core.Bool.{Bool, false}
use mathlib.Core.List.{List}
use Prim.Native.Nat.{ℕ, zero, suc, ◌+◌, ◌<◌}
use native.Mathlib.Omega.{arith}
use lib.ListN.{length, get_or, replicate, length-replicate}
use Rattle.archive.specs.Listing.{recordings_of, superseded, Sound}
use Rattle.archive.specs.Places.{no_recording, recording_at}
use Rattle.archive.proofs.PlaceLaws.{span-at}
use Rattle.archive_keys.specs.Keys.{beaten, buckets, chunk}
use Rattle.archive_keys.specs.Chains.{NoHeads}
use Rattle.archive_keys.proofs.KeyLaws.{keys-at, keys_length, superseded-keys, twice-one}
use Rattle.archive_chunks.specs.Chunks.{file_keys, LoadedIs, Unmarked, MarkedAll, MetAll, ChunkIs}

-- what an element is of those that are all the same, and past their end
alike : {A : Type 0} (n i : ℕ) (a : A) → get_or (replicate n a) i a ≡ a
alike zero i a = refl
alike (suc n) zero a = refl
alike (suc n) (suc i) a = alike n i a

-- zeros are no heads
pub no_heads : NoHeads (replicate buckets 0)
no_heads = record { size = length-replicate {A = ℕ} buckets 0; empty = λ b. alike buckets b 0 }

-- no key is marked at first
pub no_marks : (n count : ℕ) → Unmarked count (replicate n false)
no_marks n count m h = alike n m false

module _ {file : List ℕ} {at first : ℕ} {keys : List ℕ} {count next : ℕ} (marks : List Bool) {told : Bool}
    (sound : Sound file) (l : LoadedIs file at first keys count next)
    (marked : MarkedAll file keys count marks) (met : MetAll file first keys count told) where
  -- a key of the chunk is a recording's
  there : (m : ℕ) → m < count → first + m < length (recordings_of file)
  there m h = omega (arith, l.place.within)

  -- its mark is whether that one is superseded
  mark-at : (m : ℕ) → m < count
      → get_or marks m false ≡ superseded (recordings_of file) (recording_at file (first + m))
  mark-at m h =
      let key = l.keys m h ∙ keys-at (recordings_of file) (first + m) no_recording (there m h) in
      let span = span-at sound.in_span (first + m) no_recording (there m h) in
      marked m h ∙ ap (beaten (file_keys file)) key
      ∙ sym (superseded-keys (recordings_of file) (recording_at file (first + m)) sound.in_span span)

  -- what was loaded, marked and met is the chunk
  pub chunk-is : length marks ≡ chunk → ChunkIs file at first count next told marks
  chunk-is size = record {
    few = l.few;
    size = size;
    some = l.some;
    place = l.place;
    marks = mark-at;
    never = λ e q m h g s. met.never e q m h g (l.keys m g ∙ s);
    once = λ e.
        let t = met.once e in
        twice-one (recordings_of file) (first + t.1) t.0 sound.in_span (there t.1 t.3)
        (omega (arith, t.2, keys_length (recordings_of file))) t.5 (sym (l.keys t.1 t.3) ∙ t.4);
  }
