-- Document 01, "Packing" (K1 to K6): "Walk the same state." The bits that each residual is written
-- as, and the state after it.
-- Assumes nothing.
use Rattle.std.specs.Prelude.{Bool, cond, List, [], ◌∷◌, ◌++◌, ℕ, ℤ}
use Rattle.std.specs.Int.Signed.{mag}
use Rattle.word_bits.specs.Residuals.{zeros, ahead}
use Rattle.word_bits.specs.Word.{value_field, prefix_of}
use Rattle.word_state.specs.State.{State, due, other, paid, in_run, unbroken, cleared, flagged, after, run_here, on_zeros}
use Rattle.word_bits.specs.Counts.{count}
use Rattle.fields.specs.Written.{run_field, prefix_field}

-- bits, and the state after them
pub record Out : Type 0 where
  pub bits : List Bool
  pub next : State

-- a field, and then the rest
abbrev pub behind : List Bool → Out → Out
behind f o = record { bits = f ++ o.bits; next = o.next }

-- no bits
abbrev pub silent : State → Out
silent s = record { bits = []; next = s }

unfoldable pub value_out : ℕ → State → ℤ → Out
value_out k s v = record { bits = value_field (due s) k v; next = after k s }

-- "a word outside a run and without last_zero writes a prefix" (K4)
unfoldable pub plain_out : State → ℤ → List ℤ → Out
plain_out s v vs =
    cond s.last_zero
    (value_out (count (due s) (mag v)) (cleared s) v)
    (behind (prefix_field (prefix_of (count (due s) (mag v)) s.last_one (ahead (other s) vs)))
    (value_out (count (due s) (mag v)) (flagged (ahead (other s) vs) s) v))

-- "Where a run length is due, write the length of the unbroken stretch of zero residuals that
-- starts here. If that is 0, or none is due", the word (K2); run_break is clear then (W2)
unfoldable pub fresh_out : State → ℤ → List ℤ → Out
fresh_out s v vs =
    cond (run_here s)
    (behind (run_field (zeros (v ∷ vs))) (on_zeros (zeros (v ∷ vs)) (λ d. silent (in_run d s)) (plain_out (unbroken s) v vs)))
    (plain_out (unbroken s) v vs)

-- a debt of d means that the next d residuals are zeros already written
unfoldable pub word_out : State → ℤ → List ℤ → Out
word_out s v vs = on_zeros s.debt (λ d. silent (paid d s)) (fresh_out s v vs)

-- the residuals one after another
unfoldable pub packed : State → List ℤ → Out
packed s [] = silent s
packed s (v ∷ vs) = behind (word_out s v vs).bits (packed (word_out s v vs).next vs)
