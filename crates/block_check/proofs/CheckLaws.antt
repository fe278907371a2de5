-- The check of a block, summed byte by byte.
-- Assumes nothing.
use mathlib.Core.Path.{◌≡◌, refl, ap, ◌∙◌}
use mathlib.Core.List.{List, [], ◌∷◌, ◌++◌}
use Prim.Native.Nat.{ℕ, ◌+◌, ◌*◌, ◌≤◌, ◌<◌}
use native.Mathlib.Nat.{mul-le-mul}
use native.Mathlib.Numerals.{add-one}
use native.Mathlib.Omega.{arith}
use lib.ListN.{length, take, get_or}
use lib.Seq.{take-suc, length-take-le}
use mir.Syntax.{w32}
use mir.Val.{Fits}
use Rattle.archive.specs.Block.{checked_bytes, weighted_from, check_of}

-- one byte more at the end
pub weighted_snoc : (p : ℕ) (l : List ℕ) (b : ℕ)
    → weighted_from p (l ++ (b ∷ [])) ≡ weighted_from p l + (p + length l + 1) * b
unfolding weighted_from
weighted_snoc p [] b = let e : p + 0 + 1 ≡ p + 1 = omega arith in rw e (omega arith)
weighted_snoc p (a ∷ l) b =
    let e : p + 1 + length l + 1 ≡ p + length (a ∷ l) + 1 = omega arith in
    let h = weighted_snoc (p + 1) l b in
    rw (h, e) (omega arith)

-- what a byte adds
term_fits : (k b : ℕ) → k ≤ checked_bytes → b < 256 → k * b ≤ 129540
term_fits k b h l = let m : b ≤ 255 = omega arith in mul-le-mul h m

-- the first i bytes are summed
pub record Summed (block : List ℕ) (sum i : ℕ) : Type 0 where
  pub here : i ≤ checked_bytes
  pub small : sum ≤ 129540 * i
  pub is : sum ≡ weighted_from 0 (take i block)

-- none of them
pub summed-none : (block : List ℕ) → Summed block 0 0
unfolding weighted_from
summed-none block = record { here = omega arith; small = omega arith; is = refl }

-- with one more the sum fits 32 bits
pub sum-word : (block : List ℕ) (sum i k b : ℕ) → i < checked_bytes → k ≤ checked_bytes → b < 256
    → Summed block sum i → Fits w32 (sum + k * b)
sum-word block sum i k b h l m s =
    let t = term_fits k b l m in
    let n = s.small in
    record { fits = omega arith }

-- one more
pub summed-more : (block : List ℕ) (sum i b : ℕ) → checked_bytes ≤ length block → i < checked_bytes
    → b ≡ get_or block i 0 → b < 256 → Summed block sum i → Summed block (sum + (i + 1) * b) (i + 1)
summed-more block sum i b long h q l s =
    let t = term_fits (i + 1) b (omega arith) l in
    let m = s.small in
    let n : 0 + length (take i block) + 1 ≡ i + 1 = omega (arith, length-take-le i block (omega arith)) in
    let e : take (i + 1) block ≡ take i block ++ (b ∷ []) =
    rw (add-one i, q) (take-suc block i 0 (omega arith)) in
    let w = weighted_snoc 0 (take i block) b in
    record { here = omega arith; small = omega arith; is = rw (e, w, n, ← s.is) }

-- all of them
pub summed-all : (block : List ℕ) (sum i : ℕ) → checked_bytes ≤ i → Summed block sum i → sum ≡ check_of block
summed-all block sum i h s =
    let n : i ≡ checked_bytes = omega (arith, s.here) in
    s.is ∙ ap (λ (k : ℕ). weighted_from 0 (take k block)) n
