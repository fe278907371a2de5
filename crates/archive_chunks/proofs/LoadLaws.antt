-- The keys of a chunk, loaded one after the other.
-- Assumes nothing.
use mathlib.Core.Path.{◌≡◌, refl, subst, ◌∙◌}
use mathlib.Core.List.{List}
use Prim.Native.Nat.{ℕ, ◌+◌, ◌≤◌, ◌<◌}
use native.Mathlib.Omega.{arith}
use lib.ListN.{length, get_or, set, length-set}
use Rattle.archive.specs.Places.{At}
use Rattle.archive_keys.specs.Keys.{chunk}
use Rattle.archive_keys.proofs.ChainLaws.{at_set}
use Rattle.archive_chunks.specs.Chunks.{file_keys, LoadedIs}

-- the first keys from `first` on are loaded, and the next recording stands at a place
pub record Loading (file : List ℕ) (at first : ℕ) (loaded : List ℕ) (next count : ℕ) : Type 0 where
  pub few : count ≤ chunk
  pub size : length loaded ≡ chunk
  pub none : count ≡ 0 → next ≡ at
  pub place : At file next (first + count)
  pub keys : (m : ℕ) → m < count → get_or loaded m 0 ≡ get_or (file_keys file) (first + m) 0

-- none is
pub loading_none : {file : List ℕ} {at first : ℕ} {keys : List ℕ} → At file at first → length keys ≡ chunk
    → Loading file at first keys at 0
loading_none {first = first} a size =
    let e : first + 0 ≡ first = omega arith in
    record {
      few = omega arith;
      size = size;
      none = λ q. refl;
      place = rw e a;
      keys = λ m h. absurd (omega arith);
    }

module _ {file : List ℕ} {at first : ℕ} {loaded : List ℕ} {next count : ℕ}
    (l : Loading file at first loaded next count) where
  -- one more
  pub loading_more : (key after : ℕ) → count < chunk → key ≡ get_or (file_keys file) (first + count) 0
      → At file after (first + count + 1) → Loading file at first (set loaded count key) after (count + 1)
  loading_more key after room own a =
      let e : first + (count + 1) ≡ first + count + 1 = omega arith in
      record {
        few = omega arith;
        size = length-set loaded count key ∙ l.size;
        none = λ q. absurd (omega arith);
        place = rw e a;
        keys = λ m h.
            at_set (λ (v : ℕ). v ≡ get_or (file_keys file) (first + m) 0) loaded count m key 0
            (omega (arith, l.size)) (λ q. rw q own) (λ q. l.keys m (omega arith));
      }

  -- the keys that were loaded are some where the file has one more
  loaded_is : (at < length file → 0 < count) → LoadedIs file at first loaded count next
  loaded_is some = record { few = l.few; some = some; place = l.place; keys = l.keys }

  -- the file ends there
  pub loading_end : length file ≤ next → LoadedIs file at first loaded count next
  loading_end end =
      loaded_is (λ h. let ne : count ≡ 0 → ⊥ = λ q. let n = l.none q in omega arith in omega arith)

  -- the chunk is full
  pub loading_full : chunk ≤ count → LoadedIs file at first loaded chunk next
  loading_full full =
      let e : count ≡ chunk = omega (arith, l.few) in
      subst (λ (k : ℕ). LoadedIs file at first loaded k next) e (loaded_is (λ h. omega arith))
