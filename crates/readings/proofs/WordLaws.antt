-- The word, where zeros are owed and where none is.
-- Assumes nothing.
use mathlib.Core.Path.{◌≡◌, sym}
use mathlib.Core.Bool.{Bool}
use mathlib.Core.List.{List}
use Prim.Native.Nat.{ℕ, ◌-◌, ◌<◌}
use lib.IntN.{pos}
use Rattle.word_state.specs.State.{State, paid}
use Rattle.word_state.proofs.StateLaws.{zeros-some, zeros-none}
use Rattle.words.specs.Word.{given, fresh, word}
use Rattle.zones.specs.Report.{none}

-- a zero is owed
pub word-paid : (bits : List Bool) (p : ℕ) (s : State) → 0 < s.debt → word bits p s ≡ given (pos 0) p (paid (s.debt - 1) s) none
unfolding word
word-paid bits p s h = sym (zeros-some s.debt (λ d. given (pos 0) p (paid d s) none) (fresh bits p s) h)

-- no zero is owed
pub word-fresh : (bits : List Bool) (p : ℕ) (s : State) → s.debt ≡ 0 → word bits p s ≡ fresh bits p s
unfolding word
word-fresh bits p s h = zeros-none s.debt (λ d. given (pos 0) p (paid d s) none) (fresh bits p s) h

-- ---- the entry by its refusals
