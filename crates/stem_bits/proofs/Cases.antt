-- Worked cases of the totals, from a fresh state whose medians are all 1.
-- Assumes nothing.
use mathlib.Core.Path.{◌≡◌, refl}
use mathlib.Core.List.{[], ◌∷◌}
use Prim.Native.Nat.{ℕ}
use lib.Count.{count_leading_zeros}
use Rattle.bits.specs.Bits.{low, num, bits_of, ones}
use Rattle.bits.specs.Fields.{get_bits, unary}
use Rattle.entropy.specs.Medians.{Medians}
use Rattle.fields.specs.Code.{bit_length, code_of, truncated_binary}
use Rattle.fields.specs.Counts.{counted, run_length, escaped, prefix}
use Rattle.medians.specs.Interval.{low_of, high_of}
use Rattle.medians.specs.Adaptation.{up, down, adapt}
use Rattle.word_state.specs.State.{State, start, charged, exceeds, paid, in_run, unbroken, cleared, flagged, after, run_due}
use Rattle.words.specs.Word.{value, plain, fresh, word}
use Rattle.one_word.specs.View.{one_word}
use Rattle.stem_bits.specs.History.{Stand, after_words}

abbrev first : State
first = let m : Medians = record { m0 = 1; m1 = 1; m2 = 1 } in start m m

-- place and totals
abbrev stands : Stand → ℕ × ℕ × ℕ
stands x = (x.place, x.state.bits_read.left, x.state.bits_read.right)

-- two words of one payload: a run length of 0 with the word after it are left's 9 bits, and one is right's
pub two-words : stands (after_words (126 ∷ 2 ∷ []) 2 0 first) ≡ (10, 9, 1)
unfolding after_words one_word charged exceeds word fresh plain value paid in_run unbroken cleared flagged after run_due adapt up down low_of high_of prefix escaped run_length counted truncated_binary code_of bit_length count_leading_zeros get_bits unary low num bits_of ones
two-words = refl

-- and a third, of another payload: two more for left
pub three-words :
    let s = after_words (126 ∷ 2 ∷ []) 2 0 first in
    stands (after_words (0 ∷ 0 ∷ 21 ∷ 0 ∷ []) 1 s.place s.state) ≡ (12, 11, 1)
unfolding after_words one_word charged exceeds word fresh plain value paid in_run unbroken cleared flagged after run_due adapt up down low_of high_of prefix escaped run_length counted truncated_binary code_of bit_length count_leading_zeros get_bits unary low num bits_of ones
three-words = refl

-- a run of four zeros: its six bits are left's, which was due, and the zeros after the first take nothing
pub run_of_four : stands (after_words (7 ∷ []) 4 0 first) ≡ (6, 6, 0)
unfolding after_words one_word charged exceeds word fresh plain value paid in_run unbroken cleared flagged after run_due adapt up down low_of high_of prefix escaped run_length counted truncated_binary code_of bit_length count_leading_zeros get_bits unary low num bits_of ones
run_of_four = refl

-- a word that is cut off adds nothing
pub cut_word : stands (after_words (126 ∷ []) 1 0 first) ≡ (0, 0, 0)
unfolding after_words one_word charged exceeds word fresh plain value paid in_run unbroken cleared flagged after run_due adapt up down low_of high_of prefix escaped run_length counted truncated_binary code_of bit_length count_leading_zeros get_bits unary low num bits_of ones
cut_word = refl
