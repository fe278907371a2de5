-- Keys of recordings: which one supersedes which, and where one stands twice.
-- Assumes nothing.
use mathlib.Core.Path.{◌≡◌, refl, sym, ap, ◌∙◌}
use mathlib.Core.Bool.{Bool, true, false, ◌&&◌, ◌||◌, and-eq-true_iff, or-false, or-true, or_assoc}
use mathlib.Core.List.{List, [], ◌∷◌}
use Prim.Native.Nat.{ℕ, zero, suc, ◌/◌, ◌%◌, ◌<◌}
use native.Mathlib.Nat.{mod-lt}
use native.Mathlib.Omega.{arith}
use borrow.Author.Tests.{eqb-true, eq-eqb, ne_eqb, ltb-true, lt-ltb}
use lib.Dec.{eqb}
use lib.ListN.{length, take, get_or}
use Rattle.archive.specs.Recording.{Recording, InSpan, AllInSpan}
use Rattle.archive.specs.Listing.{supersedes, superseded, agree, holds, twice}
use Rattle.archive_keys.specs.Keys.{key_of, keys_of, beats, beaten, bucket_of, buckets}

-- a bucket is one of all
pub bucket-below : (key : ℕ) → bucket_of key < buckets
unfolding bucket_of
bucket-below key = mod-lt (key / 65536) (omega arith)

-- a key that supersedes another is of the same bucket
pub beats-bucket : (key other : ℕ) → beats key other ≡ true → bucket_of other ≡ bucket_of key
unfolding beats bucket_of
beats-bucket key other e =
    ap (λ (n : ℕ). n % 8191) (sym (eqb-true (key / 65536) (other / 65536) ((and-eq-true_iff _ _).0 e).0))

-- so one of another bucket is not superseded
pub beats-apart : (key other : ℕ) → (bucket_of other ≡ bucket_of key → ⊥) → beats key other ≡ false
beats-apart key other apart = end (beats key other) (λ e. apart (beats-bucket key other e))
  where
    end : (b : Bool) → (b ≡ true → ⊥) → b ≡ false
    end true h = absurd (h refl)
    end false h = refl

-- none of no keys supersedes
pub beaten-none : (ks : List ℕ) (k : ℕ) → beaten (take 0 ks) k ≡ false
unfolding beaten
beaten-none [] k = refl
beaten-none (key ∷ ks) k = refl

-- one key more
pub beaten-more : (ks : List ℕ) (q k : ℕ) → q < length ks
    → beaten (take (suc q) ks) k ≡ (beaten (take q ks) k || beats (get_or ks q 0) k)
unfolding beaten
beaten-more [] q k h = absurd (omega arith)
beaten-more (key ∷ ks) zero k h = or-false (beats key k)
beaten-more (key ∷ ks) (suc q) k h =
    ap (λ (b : Bool). beats key k || b) (beaten-more ks q k (omega arith))
    ∙ sym (or_assoc (beats key k) (beaten (take q ks) k) (beats (get_or ks q 0) k))

-- a key for each recording
pub keys_length : (rs : List Recording) → length (keys_of rs) ≡ length rs
unfolding keys_of
keys_length [] = refl
keys_length (r ∷ rs) = ap suc (keys_length rs)

-- and it is its own
pub keys-at : (rs : List Recording) (i : ℕ) (d : Recording) → i < length rs
    → get_or (keys_of rs) i 0 ≡ key_of (get_or rs i d)
unfolding keys_of
keys-at [] i d h = absurd (omega arith)
keys-at (r ∷ rs) zero d h = refl
keys-at (r ∷ rs) (suc i) d h = keys-at rs i d (omega arith)

-- tests of which each tells the other are the same
same_tests : (a b : Bool) → (a ≡ true → b ≡ true) → (b ≡ true → a ≡ true) → a ≡ b
same_tests true b f g = sym (f refl)
same_tests false true f g = g refl
same_tests false false f g = refl

-- three tests that hold together hold each
three : (x y z : Bool) → (x && y && z) ≡ true → (x ≡ true) × (y ≡ true) × (z ≡ true)
three x y z e =
    let l = (and-eq-true_iff (x && y) z).0 e in
    let k = (and-eq-true_iff x y).0 l.0 in
    (k.0, k.1, l.1)

-- what the keys of two recordings tell of them
module _ (a b : Recording) (spanA : InSpan a) (span_b : InSpan b) where
  -- house and start second are the same, and the first's issue is higher
  abbrev Later : Type 0
  Later = (a.house ≡ b.house) × (a.start ≡ b.start) × (b.issue < a.issue)

  -- the same of the keys
  abbrev LaterKey : Type 0
  LaterKey = (key_of a / 65536 ≡ key_of b / 65536) × (key_of b < key_of a)

  later_key : Later → LaterKey
  unfolding key_of
  later_key l = (omega arith, omega arith)

  key_later : LaterKey → Later
  unfolding key_of
  key_later l = (omega arith, omega arith, omega arith)

  -- a recording supersedes another where its key does
  pub supersedes-keys : supersedes a b ≡ beats (key_of a) (key_of b)
  unfolding supersedes beats
  supersedes-keys =
      same_tests _ _ (λ e.
      let t = three _ _ _ e in
      let l = later_key (eqb-true _ _ t.0, eqb-true _ _ t.1, ltb-true _ _ t.2) in
      rw (eq-eqb _ _ l.0, lt-ltb _ _ l.1))
      (λ e.
      let t = (and-eq-true_iff _ _).0 e in
      let l = key_later (eqb-true _ _ t.0, ltb-true _ _ t.1) in
      rw (eq-eqb _ _ l.0, eq-eqb _ _ l.1, lt-ltb _ _ l.2))

  same_key : (a.house ≡ b.house) × (a.start ≡ b.start) × (a.issue ≡ b.issue) → key_of a ≡ key_of b
  unfolding key_of
  same_key p = omega arith

  key_same : key_of a ≡ key_of b → (a.house ≡ b.house) × (a.start ≡ b.start) × (a.issue ≡ b.issue)
  unfolding key_of
  key_same e = (omega arith, omega arith, omega arith)

  -- two agree where their keys do
  pub agree-keys : agree a b ≡ eqb (key_of a) (key_of b)
  unfolding agree
  agree-keys =
      same_tests _ _ (λ e.
      let t = three _ _ _ e in
      eq-eqb _ _ (same_key (eqb-true _ _ t.0, eqb-true _ _ t.1, eqb-true _ _ t.2)))
      (λ e.
      let l = key_same (eqb-true _ _ e) in
      rw (eq-eqb _ _ l.0, eq-eqb _ _ l.1, eq-eqb _ _ l.2))

-- the first of a list in span, and the others
first-in_span : {r : Recording} {rs : List Recording} → AllInSpan (r ∷ rs) → InSpan r
first-in_span (AllInSpan.more span spans) = span

rest-in_span : {r : Recording} {rs : List Recording} → AllInSpan (r ∷ rs) → AllInSpan rs
rest-in_span (AllInSpan.more span spans) = spans

-- one of a list supersedes a recording where one of their keys does
pub superseded-keys : (rs : List Recording) (r : Recording) → AllInSpan rs → InSpan r
    → superseded rs r ≡ beaten (keys_of rs) (key_of r)
unfolding superseded beaten keys_of
superseded-keys [] r spans span = refl
superseded-keys (other ∷ rs) r spans span =
    rw (supersedes-keys other r (first-in_span spans) span, superseded-keys rs r (rest-in_span spans) span)

-- none of a list agrees with a recording where none has its key
pub holds-none : (rs : List Recording) (r : Recording) → AllInSpan rs → InSpan r
    → ((i : ℕ) → i < length rs → get_or (keys_of rs) i 0 ≡ key_of r → ⊥) → holds rs r ≡ false
unfolding holds keys_of
holds-none [] r spans span none = refl
holds-none (other ∷ rs) r spans span none =
    rw (agree-keys r other span (first-in_span spans), ne_eqb _ _ (λ e. none 0 (omega arith) (sym e)))
    (holds-none rs r (rest-in_span spans) span (λ i h e. none (suc i) (omega arith) e))

-- one does where one has its key
pub holds-one : (rs : List Recording) (r : Recording) (i : ℕ) → AllInSpan rs → InSpan r → i < length rs
    → get_or (keys_of rs) i 0 ≡ key_of r → holds rs r ≡ true
unfolding holds keys_of
holds-one [] r i spans span h e = absurd (omega arith)
holds-one (other ∷ rs) r zero spans span h e =
    rw (agree-keys r other span (first-in_span spans), eq-eqb _ _ (sym e))
holds-one (other ∷ rs) r (suc i) spans span h e =
    rw (holds-one rs r i (rest-in_span spans) span (omega arith) e, or-true (agree r other))

-- no two recordings agree where no key stands twice
pub twice-none : (rs : List Recording) → AllInSpan rs
    → ((i j : ℕ) → i < length rs → j < length rs → get_or (keys_of rs) i 0 ≡ get_or (keys_of rs) j 0 → i ≡ j)
    → twice rs ≡ false
unfolding twice keys_of
twice-none [] spans once = refl
twice-none (r ∷ rs) spans once =
    rw (holds-none rs r (rest-in_span spans) (first-in_span spans)
    (λ i h e. let n = once (suc i) 0 (omega arith) (omega arith) e in omega arith))
    (twice-none rs (rest-in_span spans)
    (λ i j h k e. let n = once (suc i) (suc j) (omega arith) (omega arith) e in omega arith))

-- two agree where a key stands twice
pub twice-one : (rs : List Recording) (i j : ℕ) → AllInSpan rs → i < length rs → j < length rs
    → (i ≡ j → ⊥) → get_or (keys_of rs) i 0 ≡ get_or (keys_of rs) j 0 → twice rs ≡ true
unfolding twice keys_of
twice-one [] i j spans h k apart e = absurd (omega arith)
twice-one (r ∷ rs) zero zero spans h k apart e = absurd (apart refl)
twice-one (r ∷ rs) zero (suc j) spans h k apart e =
    rw (holds-one rs r j (rest-in_span spans) (first-in_span spans) (omega arith) (sym e))
twice-one (r ∷ rs) (suc i) zero spans h k apart e =
    rw (holds-one rs r i (rest-in_span spans) (first-in_span spans) (omega arith) e)
twice-one (r ∷ rs) (suc i) (suc j) spans h k apart e =
    rw (
      twice-one rs i j (rest-in_span spans) (omega arith) (omega arith) (λ q. apart (ap suc q)) e,
      or-true (holds rs r),
    )
