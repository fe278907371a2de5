-- Keys chained one after the other.
-- Assumes nothing.
use mathlib.Core.Path.{◌≡◌, refl, sym, ap, ◌∙◌}
use mathlib.Core.Bool.{Bool, true, false}
use mathlib.Core.List.{List}
use Prim.Native.Nat.{ℕ, ◌+◌, ◌≤◌, ◌<◌}
use native.Mathlib.Omega.{arith}
use borrow.Author.Tests.{eqb-true, eqb-false}
use lib.Dec.{eqb}
use lib.ListN.{length, get_or, set, length-set}
use lib.Seq.{get_or-set_same, get_or-set_other}
use Rattle.archive_keys.specs.Keys.{bucket_of, chunk}
use Rattle.archive_keys.specs.Chains.{NoHeads, Chained}
use Rattle.archive_keys.proofs.KeyLaws.{bucket-below}

-- what holds of an element after a store: of the one stored at its place, and of any other as before
pub at_set : {A : Type 0} (P : A → Type 0) (l : List A) (i j : ℕ) (a d : A) → i < length l
    → (j ≡ i → P a) → ((j ≡ i → ⊥) → P (get_or l j d)) → P (get_or (set l i a) j d)
at_set {A} P l i j a d h here other = end (eqb j i) refl
  where
    end : (t : Bool) → eqb j i ≡ t → P (get_or (set l i a) j d)
    end true e =
        let q = eqb-true j i e in
        rw q (rw (get_or-set_same l i a d h) (here q))
    end false e =
        let q = eqb-false j i e in
        rw (get_or-set_other l i j a d q) (other q)

-- no key is chained yet
pub chained-none : (keys heads links : List ℕ) → NoHeads heads → length links ≡ chunk
    → Chained keys 0 heads links
chained-none keys heads links none size = record {
  heads_size = none.size;
  links_size = size;
  head-within = λ b. omega (arith, none.empty b);
  head-own = λ b m e. absurd (omega (arith, none.empty b));
  head-last = λ b m l h e. omega arith;
  link_before = λ j h. absurd (omega arith);
  link_own = λ j m h e. absurd (omega arith);
  link_last = λ j m h l n e. omega arith;
}

-- one key more: it links to its bucket's head, and is the head itself
module _ (keys heads links : List ℕ) (i b : ℕ) (c : Chained keys i heads links) (room : i < chunk)
    (own : b ≡ bucket_of (get_or keys i 0)) where
  -- its bucket has a head, and it has a link
  bucket-there : b < length heads
  bucket-there = let t = bucket-below (get_or keys i 0) in omega (arith, c.heads_size)

  link-there : i < length links
  link-there = omega (arith, c.links_size)

  pub chained_more : Chained keys (i + 1) (set heads b (i + 1)) (set links i (get_or heads b 0))
  chained_more = record {
    heads_size = length-set heads b (i + 1) ∙ c.heads_size;
    links_size = length-set links i (get_or heads b 0) ∙ c.links_size;
    head-within = λ b'.
        at_set (λ (v : ℕ). v ≤ i + 1) heads b b' (i + 1) 0 bucket-there
        (λ q. omega arith) (λ q. omega (arith, c.head-within b'));
    head-own = λ b' m.
        at_set (λ (v : ℕ). v ≡ m + 1 → bucket_of (get_or keys m 0) ≡ b') heads b b' (i + 1) 0 bucket-there
        (λ q e. let n : m ≡ i = omega arith in rw n (sym own ∙ sym q)) (λ q. c.head-own b' m);
    head-last = λ b' m.
        at_set (λ (v : ℕ). v ≤ m → m < i + 1 → bucket_of (get_or keys m 0) ≡ b' → ⊥) heads b b' (i + 1) 0
        bucket-there
        (λ q l h e. omega arith)
        (λ q l h e.
        let ne : m ≡ i → ⊥ = λ s. q (sym e ∙ ap (λ (k : ℕ). bucket_of (get_or keys k 0)) s ∙ sym own) in
        c.head-last b' m l (omega arith) e);
    link_before = λ j h.
        at_set (λ (v : ℕ). v ≤ j) links i j (get_or heads b 0) 0 link-there
        (λ q. omega (arith, c.head-within b)) (λ q. c.link_before j (omega arith));
    link_own = λ j m h.
        at_set (λ (v : ℕ). v ≡ m + 1 → bucket_of (get_or keys m 0) ≡ bucket_of (get_or keys j 0)) links i j
        (get_or heads b 0) 0 link-there
        (λ q e. rw q (c.head-own b m e ∙ own)) (λ q. c.link_own j m (omega arith));
    link_last = λ j m h.
        at_set (λ (v : ℕ). v ≤ m → m < j → bucket_of (get_or keys m 0) ≡ bucket_of (get_or keys j 0) → ⊥) links i j
        (get_or heads b 0) 0 link-there
        (λ q l n e.
        c.head-last b m l (omega arith) (e ∙ ap (λ (k : ℕ). bucket_of (get_or keys k 0)) q ∙ sym own))
        (λ q. c.link_last j m (omega arith));
  }
