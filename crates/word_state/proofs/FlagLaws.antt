-- Laws of flags, and of the test of whether a run length is due.
-- Assumes nothing.
use mathlib.Core.Path.{◌≡◌, refl, ap}
use mathlib.Core.Bool.{Bool, true, false, not, ◌&&◌}
use Prim.Native.Nat.{ℕ, zero, suc}
use borrow.Author.Tests.{not-true}
use lib.Dec.{leb}
use Rattle.answers.proofs.TestLaws.{both}
use Rattle.entropy.specs.Medians.{Medians}
use Rattle.word_state.specs.State.{State, side, due, other, with_flags, after, run_due, run_here}

-- the order of two tests does not matter
swapped : (a b : Bool) → (a && b) ≡ (b && a)
swapped true true = refl
swapped true false = refl
swapped false true = refl
swapped false false = refl

-- the flags are shared (S1): what a word of one channel leaves is what the next, of the other, finds
pub flags_shared : (k : ℕ) (z o : Bool) (s : State) →
    let t = after k (with_flags z o s) in (t.last_zero ≡ z) × (t.last_one ≡ o)
unfolding after
flags_shared k z o s = (refl, refl)

-- neither flag is set where a run length is due
pub due-flags : (m n : Medians) (z o : Bool) → run_due m n z o ≡ true → (z ≡ false) × (o ≡ false)
unfolding run_due
due-flags m n z o e =
    let low = leb m.m0 1 && leb n.m0 1 in
    let x = both (low && not z) (not o) e in
    let y = both low (not z) x.0 in
    (not-true z y.1, not-true o x.1)

-- it does not matter which channel's medians come first
pub due-either : (m n : Medians) (z o : Bool) → run_due m n z o ≡ run_due n m z o
unfolding run_due
due-either m n z o = ap (λ (b : Bool). b && not z && not o) (swapped (leb m.m0 1) (leb n.m0 1))

-- whether a run length stands before the word, by the medians of the channel due and of the other
pub here-due : (s : State) → run_here s ≡ (not s.run_break && run_due (due s) (other s) s.last_zero s.last_one)
here-due s = go s.channel
  where
    go : (c : ℕ) → run_here s
        ≡ (not s.run_break && run_due (side c s.left s.right) (side c s.right s.left) s.last_zero s.last_one)
    go zero = refl
    go (suc c) = ap (λ (b : Bool). not s.run_break && b) (due-either s.left s.right s.last_zero s.last_one)
