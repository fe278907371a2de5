-- A walk through a file, that marks the keys of a chunk and tells whether one stands at another place too.
-- Assumes nothing.
use mathlib.Core.Path.{◌≡◌, refl, sym, ap, ◌∙◌}
use mathlib.Core.Bool.{Bool, true, false, ◌||◌, false≢true}
use mathlib.Core.List.{List}
use Prim.Native.Nat.{ℕ, ◌+◌, ◌≤◌, ◌<◌}
use native.Mathlib.Numerals.{add-one}
use native.Mathlib.Omega.{arith}
use lib.ListN.{length, get_or, take}
use lib.Seq.{take_all}
use borrow.Author.Count.{below_more}
use Rattle.archive.specs.Listing.{recordings_of}
use Rattle.archive.specs.Places.{At}
use Rattle.archive.proofs.PlaceLaws.{at-end}
use Rattle.archive_keys.specs.Keys.{beaten}
use Rattle.archive_keys.specs.Chains.{Marked, Met}
use Rattle.archive_keys.proofs.KeyLaws.{beaten-none, beaten-more, keys_length}
use Rattle.answers.proofs.TestLaws.{neither}
use Rattle.archive_keys.proofs.MarkLaws.{one}
use Rattle.archive_chunks.specs.Chunks.{file_keys, Unmarked, MarkedAll, MetAll}

-- the first recordings of a file are walked, and the next stands at a place
pub record Walked (file : List ℕ) (first : ℕ) (keys : List ℕ) (count : ℕ) (before marks : List Bool)
    (told : Bool) (at index : ℕ) : Type 0 where
  pub place : At file at index
  pub same_length : length marks ≡ length before
  pub marked : (m : ℕ) → m < count → get_or marks m false ≡ beaten (take index (file_keys file)) (get_or keys m 0)
  pub never : told ≡ false → (q m : ℕ) → q < index → m < count → get_or keys m 0 ≡ get_or (file_keys file) q 0
      → first + m ≡ q
  pub once : told ≡ true → (q : ℕ) × (m : ℕ) × (q < length (file_keys file)) × (m < count)
      × (get_or keys m 0 ≡ get_or (file_keys file) q 0) × (first + m ≡ q → ⊥)

-- none is
pub walked_none : {file : List ℕ} {first : ℕ} {keys : List ℕ} {count : ℕ} {marks : List Bool}
    → At file 0 0 → Unmarked count marks → Walked file first keys count marks marks false 0 0
walked_none {file} {keys = keys} a none = record {
  place = a;
  same_length = refl;
  marked = λ m h. none m h ∙ sym (beaten-none (file_keys file) (get_or keys m 0));
  never = λ e q m h. absurd (omega arith);
  once = λ e. absurd (false≢true e);
}

-- one more
module _ {file : List ℕ} {first : ℕ} {keys : List ℕ} {count : ℕ} {before marks after : List Bool}
    {told met again : Bool} {at index key : ℕ} (w : Walked file first keys count before marks told at index)
    (there : index < length (recordings_of file)) (own : key ≡ get_or (file_keys file) index 0)
    (m : Marked key keys count marks after) (n : Met key index first keys count met)
    (both : again ≡ (told || met)) where
  key_there : index < length (file_keys file)
  key_there = omega (arith, keys_length (recordings_of file))

  pub walked_more : {next : ℕ} → At file next (index + 1)
      → Walked file first keys count before after again next (index + 1)
  walked_more a = record {
    place = a;
    same_length = m.same_length ∙ w.same_length;
    marked = λ i h.
        let e = beaten-more (file_keys file) index (get_or keys i 0) key_there in
        rw (add-one index, e, ← own, ← w.marked i h) (m.marks i h);
    never = λ e q i h g s.
        let f = neither told met (sym both ∙ e) in
        below_more (λ (x : ℕ). get_or keys i 0 ≡ get_or (file_keys file) x 0 → first + i ≡ x) index
        (λ x l. w.never f.0 x i l g) (λ t. n.never f.1 i g (t ∙ sym own)) q h s;
    once = λ e.
        one told met (sym both ∙ e) w.once
        (λ f. let t = n.once f in (index, t.0, key_there, t.1, t.2 ∙ own, t.3));
  }

-- all are
module _ {file : List ℕ} {first : ℕ} {keys : List ℕ} {count : ℕ} {before marks : List Bool}
    {told : Bool} {at index : ℕ} (w : Walked file first keys count before marks told at index)
    (end : length file ≤ at) where
  ended : index ≡ length (file_keys file)
  ended = at-end file at index w.place end ∙ sym (keys_length (recordings_of file))

  pub walked-marks : MarkedAll file keys count marks
  walked-marks m h =
      w.marked m h
      ∙ ap (λ (l : List ℕ). beaten l (get_or keys m 0)) (take_all index (file_keys file) (omega (arith, ended)))

  pub walked_met : MetAll file first keys count told
  walked_met = record { never = λ e q m h. w.never e q m (omega (arith, ended)); once = w.once }
