-- Stretches of zeros: counted one by one, unbroken, and as long as can be.
-- Assumes nothing.
use mathlib.Core.Path.{◌≡◌, refl, sym, ap, ◌∙◌}
use mathlib.Core.List.{List, [], ◌∷◌, ◌++◌}
use Prim.Native.Nat.{ℕ, zero, suc, ◌+◌, ◌≤◌, ◌<◌}
use native.Mathlib.Decide.{dec_le}
use native.Mathlib.Omega.{arith}
use borrow.Author.Tests.{le-leb, lt-leb, eq-eqb, ne_eqb, eqb-true, eqb-false}
use lib.IntN.{ℤ, pos, negsuc}
use lib.Dec.{leb, eqb}
use lib.ListN.{length, drop, get_or, replicate, drop_of_length-le}
use lib.Seq.{drop-cons, drop-drop}
use Rattle.word_bits.specs.Residuals.{zeros}
use Rattle.word_bits.specs.View.{other_of, SkipIs}

-- the first residual of a stretch of zeros is 0, and the stretch goes on
pub zeros-head : (v : ℤ) (vs : List ℤ) (d : ℕ) → suc d ≤ zeros (v ∷ vs) → (pos 0 ≡ v) × (d ≤ zeros vs)
unfolding zeros
zeros-head (pos zero) vs d h = (refl, omega arith)
zeros-head (pos (suc n)) vs d h = absurd (omega arith)
zeros-head (negsuc n) vs d h = absurd (omega arith)

-- no stretch is longer than the list
pub zeros_le : (vs : List ℤ) → zeros vs ≤ length vs
unfolding zeros
zeros_le [] = omega arith
zeros_le (pos zero ∷ vs) = omega (arith, zeros_le vs)
zeros_le (pos (suc n) ∷ vs) = omega arith
zeros_le (negsuc n ∷ vs) = omega arith

-- one zero more
pub zeros-more : (vs : List ℤ) (j : ℕ) → j < length vs → get_or vs j (pos 0) ≡ pos 0 → zeros (drop j vs) ≡ suc (zeros (drop (suc j) vs))
unfolding zeros
zeros-more vs j h e = rw (drop-cons vs j (pos 0) h, e)

-- no stretch starts at another residual
zeros-none : (v : ℤ) (vs : List ℤ) → (v ≡ pos 0 → ⊥) → zeros (v ∷ vs) ≡ 0
unfolding zeros
zeros-none (pos zero) vs h = absurd (h refl)
zeros-none (pos (suc n)) vs h = refl
zeros-none (negsuc n) vs h = refl

-- another residual ends the stretch
pub zeros-stop : (vs : List ℤ) (j : ℕ) → j < length vs → (get_or vs j (pos 0) ≡ pos 0 → ⊥) → zeros (drop j vs) ≡ 0
zeros-stop vs j h e = rw (drop-cons vs j (pos 0) h) (zeros-none (get_or vs j (pos 0)) (drop (suc j) vs) e)

-- and so does the end of the list
pub zeros-past : (vs : List ℤ) (j : ℕ) → length vs ≤ j → zeros (drop j vs) ≡ 0
unfolding zeros
zeros-past vs j h = rw (drop_of_length-le vs {i = j} h)

-- a stretch of zeros is zeros
pub zeros_are : (vs : List ℤ) → vs ≡ replicate (zeros vs) (pos 0) ++ drop (zeros vs) vs
unfolding zeros
zeros_are [] = refl
zeros_are (pos zero ∷ vs) = ap (λ (l : List ℤ). pos 0 ∷ l) (zeros_are vs)
zeros_are (pos (suc n) ∷ vs) = refl
zeros_are (negsuc n ∷ vs) = refl

-- and no zero follows it
pub zeros-end : (vs : List ℤ) → zeros (drop (zeros vs) vs) ≡ 0
unfolding zeros
zeros-end [] = refl
zeros-end (pos zero ∷ vs) = zeros-end vs
zeros-end (pos (suc n) ∷ vs) = refl
zeros-end (negsuc n ∷ vs) = refl

-- ---- whole blocks

-- a residual that is counted as 0 is 0
other_none : (v : ℤ) → other_of v ≡ 0 → v ≡ pos 0
other_none (pos zero) e = refl
other_none (pos (suc n)) e = absurd (omega arith)
other_none (negsuc n) e = absurd (omega arith)

-- none counts more than 1
pub other_le : (v : ℤ) → other_of v ≤ 1
other_le (pos zero) = omega arith
other_le (pos (suc n)) = omega arith
other_le (negsuc n) = omega arith

-- 0 counts 0
pub other-zero : (v : ℤ) → v ≡ pos 0 → 0 ≡ other_of v
other-zero v e = rw e

-- any other counts 1
pub other-some : (v : ℤ) → (v ≡ pos 0 → ⊥) → 1 ≡ other_of v
other-some (pos zero) h = absurd (h refl)
other-some (pos (suc n)) h = refl
other-some (negsuc n) h = refl

-- past j zeros of a stretch the rest of it stands
zeros_reach : (vs : List ℤ) (from j : ℕ) → j ≤ zeros (drop from vs) → zeros (drop from vs) ≡ j + zeros (drop (from + j) vs)
unfolding zeros
zeros_reach vs from j h = go (drop from vs) j h ∙ ap (λ (l : List ℤ). j + zeros l) (drop-drop j from vs)
  where
    go : (l : List ℤ) (j : ℕ) → j ≤ zeros l → zeros l ≡ j + zeros (drop j l)
    go l zero h = omega arith
    go [] (suc j) h = absurd (omega arith)
    go (pos zero ∷ l) (suc j) h = omega (arith, go l j (omega arith))
    go (pos (suc n) ∷ l) (suc j) h = absurd (omega arith)
    go (negsuc n ∷ l) (suc j) h = absurd (omega arith)

-- of the j residuals from `from` on so many are not 0
pub record Block (vs : List ℤ) (from others j : ℕ) : Type 0 where
  pub is : eqb others 0 ≡ leb j (zeros (drop from vs))
  pub few : others ≤ j

-- none was looked at yet
pub block_start : (vs : List ℤ) (from : ℕ) → Block vs from 0 0
block_start vs from = record { is = sym (le-leb 0 (zeros (drop from vs)) (omega arith)); few = omega arith }

-- one more is looked at
pub block-step : (vs : List ℤ) (from others j : ℕ) → from + j < length vs → Block vs from others j → Block vs from (others + other_of (get_or vs (from + j) (pos 0))) (j + 1)
block-step vs from others j h b = record { is = go (dec_le j (zeros (drop from vs))); few = omega (arith, b.few, other_le v) }
  where
    v : ℤ
    v = get_or vs (from + j) (pos 0)

    z : ℕ
    z = zeros (drop from vs)

    at_next : j ≤ z → others ≡ 0 → Dec (1 ≤ other_of v) → eqb (others + other_of v) 0 ≡ leb (j + 1) z
    at_next l o (yes p) =
        let n = zeros-stop vs (from + j) h (λ e. omega (arith, other-zero v e)) in
        rw (ne_eqb (others + other_of v) 0 (λ e. omega arith), lt-leb (j + 1) z (omega (arith, zeros_reach vs from j l)))
    at_next l o (no p) =
        let n = zeros-more vs (from + j) h (other_none v (omega arith)) in
        rw (eq-eqb (others + other_of v) 0 (omega arith), le-leb (j + 1) z (omega (arith, zeros_reach vs from j l)))

    go : Dec (j ≤ z) → eqb (others + other_of v) 0 ≡ leb (j + 1) z
    go (yes l) = at_next l (eqb-true others 0 (b.is ∙ le-leb j z l)) (dec_le 1 (other_of v))
    go (no l) =
        let o = eqb-false others 0 (b.is ∙ lt-leb j z (omega arith)) in
        rw (ne_eqb (others + other_of v) 0 (λ e. o (omega arith)), lt-leb (j + 1) z (omega arith))

-- nothing is passed over yet
pub skip-start : (vs : List ℤ) (first : ℕ) → first ≤ length vs → SkipIs vs first first
skip-start vs first h = record { ahead_of = omega arith; here = h; zeros_are = omega arith }

-- a block of zeros is passed over
pub skip_step : (vs : List ℤ) (first i : ℕ) → i + 32 ≤ length vs → 32 ≤ zeros (drop i vs) → SkipIs vs first i → SkipIs vs first (i + 32)
skip_step vs first i h z s = record { ahead_of = omega (arith, s.ahead_of); here = h; zeros_are = omega (arith, s.zeros_are, s.ahead_of, zeros_reach vs i 32 z) }
