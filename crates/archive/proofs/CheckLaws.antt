-- A block with one byte altered: its check and its bytes do not agree any more (Q9.7).
-- Assumes nothing.
use mathlib.Core.Path.{◌≡◌, refl, sym, ap, ◌∙◌}
use mathlib.Core.Bool.{Bool, true, false}
use mathlib.Core.List.{List, [], ◌∷◌}
use Prim.Native.Nat.{ℕ, zero, suc, ◌+◌, ◌-◌, ◌≤◌, ◌<◌}
use native.Mathlib.Nat.{eq_of_mul-eq-mul_left}
use native.Mathlib.Omega.{arith}
use borrow.Author.Tests.{ne_eqb, eqb-true, ltb-true, ltb-false}
use lib.Dec.{ltb}
use lib.ListN.{length, take, drop, get_or, set, length-take, length-drop}
use lib.Seq.{take-set-lt, take-set-le, drop-set-lt, drop-set-add, get_or-take, get_or-drop}
use Rattle.little_endian.specs.LittleEndian.{from_little_endian}
use Rattle.archive.specs.Block.{block_bytes, checked_bytes, weighted_from, check_of, check_in, passes}

-- equal sums of bytes that differ at most at one place have the same byte there
weighted_set : (p : ℕ) (l : List ℕ) (i v : ℕ) → i < length l → weighted_from p l ≡ weighted_from p (set l i v)
    → get_or l i 0 ≡ v
unfolding weighted_from
weighted_set p [] i v h e = absurd (omega arith)
weighted_set p (b ∷ l) zero v h e = eq_of_mul-eq-mul_left (p + 1) (omega arith) b v (omega arith)
weighted_set p (b ∷ l) (suc i) v h e = weighted_set (p + 1) l i v (omega arith) (omega arith)

-- so have equal numbers
number-set : (l : List ℕ) (i v : ℕ) → i < length l → from_little_endian l ≡ from_little_endian (set l i v)
    → get_or l i 0 ≡ v
unfolding from_little_endian
number-set [] i v h e = absurd (omega arith)
number-set (b ∷ l) zero v h e = omega arith
number-set (b ∷ l) (suc i) v h e = number-set l i v (omega arith) (omega arith)

module _ (b : List ℕ) (i v : ℕ) (size : length b ≡ block_bytes) (p : passes b ≡ true) where
  -- before the check
  body_altered : i < checked_bytes → check_of (set b i v) ≡ check_in (set b i v) → get_or b i 0 ≡ v
  body_altered h e =
      let same : check_of b ≡ weighted_from 0 (set (take checked_bytes b) i v) =
      eqb-true _ _ p ∙ sym (rw (take-set-lt checked_bytes b i v h, drop-set-lt checked_bytes b i v h) at e) in
      let n = length-take checked_bytes b in
      sym (get_or-take checked_bytes b i 0 h) ∙ weighted_set 0 (take checked_bytes b) i v (omega arith) same

  -- in the check itself
  check_altered : checked_bytes ≤ i → i < block_bytes → check_of (set b i v) ≡ check_in (set b i v)
      → get_or b i 0 ≡ v
  check_altered h g e =
      let k = i - checked_bytes in
      let at : checked_bytes + k ≡ i = omega arith in
      let tail = drop checked_bytes b in
      let moved : drop checked_bytes (set b i v) ≡ set tail k v =
      ap (λ (n : ℕ). drop checked_bytes (set b n v)) (sym at) ∙ drop-set-add checked_bytes b k v in
      let same : from_little_endian (take 4 tail) ≡ from_little_endian (set (take 4 tail) k v) =
      sym (eqb-true _ _ p)
      ∙ rw (take-set-le checked_bytes b i v h, moved, take-set-lt 4 tail k v (omega arith)) at e in
      let n = length-take 4 tail in
      let m = length-drop checked_bytes b in
      sym (ap (λ (x : ℕ). get_or b x 0) at) ∙ sym (get_or-drop checked_bytes b k 0)
      ∙ sym (get_or-take 4 tail k 0 (omega arith))
      ∙ number-set (take 4 tail) k v (omega arith) same

  -- "A block with one byte altered must never pass": at each of its places, whatever the other byte
  pub altered_fails : i < block_bytes → (get_or b i 0 ≡ v → ⊥) → passes (set b i v) ≡ false
  altered_fails h d = go (ltb i checked_bytes) refl
    where
      go : (t : Bool) → ltb i checked_bytes ≡ t → passes (set b i v) ≡ false
      go true q = ne_eqb _ _ (λ e. d (body_altered (ltb-true _ _ q) e))
      go false q = ne_eqb _ _ (λ e. d (check_altered (ltb-false _ _ q) h e))
