-- A key looked up along its chain: what it supersedes is marked, and where it stands again is told.
-- Assumes nothing.
use mathlib.Core.Path.{◌≡◌, refl, sym, ap, ◌∙◌}
use mathlib.Core.Bool.{Bool, true, false, ◌||◌, false≢true, or-false, and-eq-true_iff}
use mathlib.Core.List.{List}
use Prim.Native.Nat.{ℕ, ◌+◌, ◌≤◌, ◌<◌}
use native.Mathlib.Omega.{arith}
use borrow.Author.Tests.{eqb-true, eqb-false, eq-eqb, ltb-true, ltb-false, not-true, not-false}
use lib.Dec.{eqb, ltb}
use lib.ListN.{length, get_or, set, length-set}
use lib.Seq.{get_or-set_other}
use Rattle.answers.proofs.TestLaws.{neither}
use Rattle.archive_keys.specs.Keys.{bucket_of, beats}
use Rattle.archive_keys.specs.Chains.{Chained, Marked, Met, elsewhere}
use Rattle.archive_keys.proofs.KeyLaws.{beats-apart}
use Rattle.archive_keys.proofs.ChainLaws.{at_set}

-- two tests of which one holds: what each tells is so
pub one : {P : Type 0} (s t : Bool) → (s || t) ≡ true → (s ≡ true → P) → (t ≡ true → P) → P
one true t e f g = f refl
one false t e f g = g e

-- where a key is not another's, it has its own place
elsewhere-false : (key index other place : ℕ) → elsewhere key index other place ≡ false → other ≡ key
    → place ≡ index
unfolding elsewhere
elsewhere-false key index other place e q =
    sym (eqb-true index place (not-false (eqb index place) (rw (eq-eqb key other (sym q)) at e)))

-- and where it is, another
elsewhere-true : (key index other place : ℕ) → elsewhere key index other place ≡ true
    → (other ≡ key) × (place ≡ index → ⊥)
unfolding elsewhere
elsewhere-true key index other place e =
    let t = (and-eq-true_iff _ _).0 e in
    (sym (eqb-true key other t.0), λ q. eqb-false index place (not-true (eqb index place) t.1) (sym q))

-- a number is below another, the same, or above it
three_ways : {P : Type 0} (m n : ℕ) → (m < n → P) → (m ≡ n → P) → (n < m → P) → P
three_ways {P} m n below same above = end (ltb m n) (ltb n m) refl refl
  where
    end : (s t : Bool) → ltb m n ≡ s → ltb n m ≡ t → P
    end true t e f = below (ltb-true m n e)
    end false true e f = above (ltb-true n m f)
    end false false e f = same (omega (arith, ltb-false m n e, ltb-false n m f))

-- the keys from place j on are looked at, and the next one is at j - 1
pub record Passed (key index first : ℕ) (keys : List ℕ) (count : ℕ) (before marks : List Bool) (told : Bool)
    (j : ℕ) : Type 0 where
  pub within : j ≤ count
  pub own : (m : ℕ) → j ≡ m + 1 → bucket_of (get_or keys m 0) ≡ bucket_of key
  pub same_length : length marks ≡ length before
  pub ahead : (m : ℕ) → m < j → get_or marks m false ≡ get_or before m false
  pub behind : (m : ℕ) → j ≤ m → m < count
      → get_or marks m false ≡ (get_or before m false || beats key (get_or keys m 0))
  pub never : told ≡ false → (m : ℕ) → j ≤ m → m < count → get_or keys m 0 ≡ key → first + m ≡ index
  pub once : told ≡ true → (m : ℕ) × (m < count) × (get_or keys m 0 ≡ key) × (first + m ≡ index → ⊥)

module _ {keys : List ℕ} {count : ℕ} {heads links : List ℕ} (c : Chained keys count heads links) where
  -- none from the head of its bucket on is the key's
  pub passed_none : {key index first : ℕ} {before : List Bool}
      → Passed key index first keys count before before false (get_or heads (bucket_of key) 0)
  passed_none {key} = record {
    within = c.head-within (bucket_of key);
    own = c.head-own (bucket_of key);
    same_length = refl;
    ahead = λ m h. refl;
    behind = λ m l h.
        rw (beats-apart key (get_or keys m 0) (c.head-last (bucket_of key) m l h)) (sym (or-false _));
    never = λ e m l h q. absurd (c.head-last (bucket_of key) m l h (ap bucket_of q));
    once = λ e. absurd (false≢true e);
  }

  -- one more
  module _ {key index first : ℕ} {before marks : List Bool} {told : Bool} {j : ℕ}
      (p : Passed key index first keys count before marks told j) (room : count ≤ length before)
      (m : ℕ) (at : j ≡ m + 1) (mark again : Bool)
      (marked : mark ≡ (get_or marks m false || beats key (get_or keys m 0)))
      (met : again ≡ (told || elsewhere key index (get_or keys m 0) (first + m))) where
    there : m < count
    there = omega (arith, p.within)

    -- those between it and its link are of other buckets
    apart : (n : ℕ) → get_or links m 0 ≤ n → n < m → bucket_of (get_or keys n 0) ≡ bucket_of key → ⊥
    apart n l h e = c.link_last m n there l h (e ∙ sym (p.own m at))

    -- the marks behind the next key are as they are to be
    marks-behind : (n : ℕ) → get_or links m 0 ≤ n → n < count
        → get_or (set marks m mark) n false ≡ (get_or before n false || beats key (get_or keys n 0))
    marks-behind n l h =
        at_set (λ (v : Bool). v ≡ (get_or before n false || beats key (get_or keys n 0))) marks m n mark false
        (omega (arith, p.same_length))
        (λ q. rw q (marked ∙ ap (λ (v : Bool). v || beats key (get_or keys m 0)) (p.ahead m (omega arith))))
        (λ q.
        three_ways n m
        (λ b.
        p.ahead n (omega arith)
        ∙ rw (beats-apart key (get_or keys n 0) (apart n l b)) (sym (or-false _)))
        (λ e. absurd (q e))
        (λ a. p.behind n (omega arith) h))

    -- so is what is told, where it is told of none
    never-behind : told ≡ false → elsewhere key index (get_or keys m 0) (first + m) ≡ false
        → (n : ℕ) → get_or links m 0 ≤ n → n < count → get_or keys n 0 ≡ key → first + n ≡ index
    never-behind e f n l h q =
        three_ways n m
        (λ b. absurd (apart n l b (ap bucket_of q)))
        (λ s. rw s (elsewhere-false key index _ _ f (rw s at q)))
        (λ a. p.never e n (omega arith) h q)

    pub passed-more : Passed key index first keys count before (set marks m mark) again (get_or links m 0)
    passed-more = record {
      within = omega (arith, c.link_before m there, p.within);
      own = λ n e. c.link_own m n there e ∙ p.own m at;
      same_length = length-set marks m mark ∙ p.same_length;
      ahead = λ n h.
          let l = c.link_before m there in
          get_or-set_other marks m n mark false (λ q. omega arith) ∙ p.ahead n (omega arith);
      behind = marks-behind;
      never = λ e. let f = neither _ _ (sym met ∙ e) in never-behind f.0 f.1;
      once = λ e.
          one told _ (sym met ∙ e) p.once
          (λ f. let t = elsewhere-true key index _ _ f in (m, there, t.0, t.1));
    }

-- all are looked at
module _ {key index first : ℕ} {keys : List ℕ} {count : ℕ} {before marks : List Bool} {told : Bool} {j : ℕ}
    (p : Passed key index first keys count before marks told j) (end : j ≤ 0) where
  pub passed-marks : Marked key keys count before marks
  passed-marks = record { same_length = p.same_length; marks = λ m h. p.behind m (omega arith) h }

  pub passed_met : Met key index first keys count told
  passed_met = record { never = λ e m h q. p.never e m (omega arith) h q; once = p.once }
