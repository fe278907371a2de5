-- Laws of the two totals (document 02, §8): the array that the code holds, and what a word adds.
-- Assumes nothing.
use mathlib.Core.Path.{◌≡◌, refl, ap}
use mathlib.Core.Bool.{false}
use mathlib.Core.List.{List, [], ◌∷◌}
use Prim.Native.Nat.{ℕ, zero, suc, ◌+◌, ◌-◌, ◌≤◌, ◌<◌}
use native.Mathlib.Omega.{arith}
use borrow.Author.Tests.{ltb-false, le-ltb}
use lib.ListN.{length, get_or, set}
use Rattle.word_state.specs.State.{BitsRead, State, side, with_bits, plus_bits, charged, exceeds}
use Rattle.word_state.specs.View.{bits_read_of}

-- the total of a channel, replaced in the code's array
pub added : (l : List ℕ) (c n : ℕ) → length l ≡ 2 → c < 2
    → bits_read_of (set l c (get_or l c 0 + n)) ≡ plus_bits c n (bits_read_of l)
added [] c n l h = absurd (omega arith)
added (a ∷ []) c n l h = absurd (omega arith)
added (a ∷ b ∷ t) zero n l h = refl
added (a ∷ b ∷ t) (suc zero) n l h = refl
added (a ∷ b ∷ t) (suc (suc c)) n l h = absurd (omega arith)

-- what is added to one total is added to both together
pub sum_added : (c n : ℕ) (b : BitsRead)
    → let t = plus_bits c n b in t.left + t.right ≡ b.left + b.right + n
sum_added zero n b = omega arith
sum_added (suc c) n b = omega arith

-- a total of the code's array by its channel
pub total_of : (l : List ℕ) (c : ℕ) → c < 2 → get_or l c 0 ≡ side c (bits_read_of l).left (bits_read_of l).right
total_of l zero h = refl
total_of l (suc zero) h = refl
total_of l (suc (suc c)) h = absurd (omega arith)

-- no bits are nothing
pub charged-none : (c p : ℕ) (s : State) → charged c (p - p) s ≡ s
unfolding charged
charged-none zero p s =
    ap (λ (n : ℕ). with_bits (record { left = n; right = s.bits_read.right }) s) (omega arith)
charged-none (suc c) p s =
    ap (λ (n : ℕ). with_bits (record { left = s.bits_read.left; right = n }) s) (omega arith)

-- the totals together, where they do not exceed a place
pub not_exceeded : (b : BitsRead) (p : ℕ) → exceeds b p ≡ false → b.left + b.right ≤ p
unfolding exceeds
not_exceeded b p e = omega (arith, ltb-false p (b.left + b.right) e)

-- and the other way round
pub within-place : (b : BitsRead) (p : ℕ) → b.left + b.right ≤ p → exceeds b p ≡ false
unfolding exceeds
within-place b p h = le-ltb p (b.left + b.right) h
