-- Worked cases of the two calls: the first starred input of `wvpair`, as a reading and as a word,
-- with numbers behind the slots; totals at the place and over it; and two refusals.
-- Assumes nothing.
use mathlib.Core.Path.{◌≡◌, refl}
use mathlib.Core.List.{[], ◌∷◌}
use lib.IntN.{pos, negsuc}
use lib.Count.{count_leading_zeros}
use Rattle.bits.specs.Bits.{low, num, bits_of, ones}
use Rattle.bits.specs.Fields.{get_bits, unary}
use Rattle.entropy.specs.Entropy.{word_set, entropy_info, entropy_refusal, is_mono}
use Rattle.entropy.specs.Seed.{any_negative, not_stereo, seed_refusal, seed_medians}
use Rattle.fields.specs.Code.{bit_length, code_of, truncated_binary}
use Rattle.fields.specs.Counts.{counted, run_length, escaped, prefix}
use Rattle.logpack.specs.Exp2Table.{exp2_table}
use Rattle.logpack.specs.LogWord.{mantissa, magnitude, log_word}
use Rattle.medians.specs.Interval.{low_of, high_of}
use Rattle.medians.specs.Adaptation.{up, down, adapt}
use Rattle.word_state.specs.State.{charged, exceeds, paid, in_run, unbroken, cleared, flagged, after, run_due}
use Rattle.words.specs.Word.{value, plain, fresh, word}
use Rattle.readings.specs.Reading.{reading}
use Rattle.readings.specs.Costs.{left_cost, right_cost, costs}
use Rattle.samples.specs.View.{read_refusal, read_entry}
use Rattle.one_word.specs.View.{one_word}
use Rattle.overlay.specs.Overlay.{overlay}
use Rattle.word_calls.specs.Calls.{read_call, word_call}

-- one frame: 3 and -1 in 10 bits, 9 of them left's; the left medians went up from 1, and an eleventh
-- element stays
pub frame-read :
    read_call (0 ∷ 1 ∷ 0 ∷ 1 ∷ 0 ∷ 1 ∷ 0 ∷ 1 ∷ 0 ∷ 1 ∷ 0 ∷ 1 ∷ []) (126 ∷ 2 ∷ []) 1 (pos 7 ∷ pos 7 ∷ []) (77 ∷ 77 ∷ 77 ∷ 77 ∷ 77 ∷ 77 ∷ 77 ∷ 77 ∷ 77 ∷ 77 ∷ 77 ∷ [])
    ≡ record { refusal = 0; samples = pos 3 ∷ negsuc 0 ∷ []; answer = 10 ∷ 6 ∷ 6 ∷ 6 ∷ 1 ∷ 1 ∷ 1 ∷ 2 ∷ 9 ∷ 1 ∷ 77 ∷ [] }
unfolding read_call overlay read_entry left_cost right_cost costs read_refusal seed_refusal seed_medians entropy_refusal entropy_info word_set is_mono any_negative not_stereo log_word magnitude mantissa exp2_table reading word fresh plain value paid in_run unbroken cleared flagged after run_due adapt up down low_of high_of prefix escaped run_length counted truncated_binary code_of bit_length count_leading_zeros get_bits unary low num bits_of ones
frame-read = refl

-- its first word: 3, of the overflow zone with count 3; the place is then 9, the right channel is
-- due, last_zero is set, and the 9 bits are left's
pub word_read :
    word_call (126 ∷ 2 ∷ []) (0 ∷ 0 ∷ 0 ∷ 0 ∷ 0 ∷ 0 ∷ 0 ∷ 1 ∷ 1 ∷ 1 ∷ 1 ∷ 1 ∷ 1 ∷ 0 ∷ 0 ∷ 77 ∷ []) (pos 7 ∷ []) (77 ∷ 77 ∷ 77 ∷ [])
    ≡ record { refusal = 0; state = 9 ∷ 1 ∷ 1 ∷ 0 ∷ 0 ∷ 0 ∷ 0 ∷ 6 ∷ 6 ∷ 6 ∷ 1 ∷ 1 ∷ 1 ∷ 9 ∷ 0 ∷ 77 ∷ []; sample = pos 3 ∷ []; report = 4 ∷ 3 ∷ 77 ∷ [] }
unfolding word_call overlay one_word exceeds charged word fresh plain value paid in_run unbroken cleared flagged after run_due adapt up down low_of high_of prefix escaped run_length counted truncated_binary code_of bit_length count_leading_zeros get_bits unary low num bits_of ones
word_read = refl

-- a channel of 2 is refused with 12: the state keeps its numbers, a flag of 9 included
pub channel-refused :
    word_call [] (5 ∷ 2 ∷ 9 ∷ 0 ∷ 0 ∷ 0 ∷ 0 ∷ 1 ∷ 1 ∷ 1 ∷ 1 ∷ 1 ∷ 1 ∷ 2 ∷ 3 ∷ []) (pos 7 ∷ []) (77 ∷ 77 ∷ [])
    ≡ record { refusal = 12; state = 5 ∷ 2 ∷ 9 ∷ 0 ∷ 0 ∷ 0 ∷ 0 ∷ 1 ∷ 1 ∷ 1 ∷ 1 ∷ 1 ∷ 1 ∷ 2 ∷ 3 ∷ []; sample = pos 0 ∷ []; report = 0 ∷ 0 ∷ [] }
unfolding word_call overlay one_word exceeds
channel-refused = refl

-- totals of 3 and 3 at the place 5 are refused with 12, and kept
pub totals-refused :
    word_call [] (5 ∷ 0 ∷ 0 ∷ 0 ∷ 1 ∷ 0 ∷ 0 ∷ 1 ∷ 1 ∷ 1 ∷ 1 ∷ 1 ∷ 1 ∷ 3 ∷ 3 ∷ []) (pos 7 ∷ []) (77 ∷ 77 ∷ [])
    ≡ record { refusal = 12; state = 5 ∷ 0 ∷ 0 ∷ 0 ∷ 1 ∷ 0 ∷ 0 ∷ 1 ∷ 1 ∷ 1 ∷ 1 ∷ 1 ∷ 1 ∷ 3 ∷ 3 ∷ []; sample = pos 0 ∷ []; report = 0 ∷ 0 ∷ [] }
unfolding word_call overlay one_word exceeds
totals-refused = refl

-- those of 2 and 3 are accepted; the zero that was owed takes nothing
pub totals-at_the_place :
    word_call [] (5 ∷ 0 ∷ 0 ∷ 0 ∷ 1 ∷ 0 ∷ 0 ∷ 1 ∷ 1 ∷ 1 ∷ 1 ∷ 1 ∷ 1 ∷ 2 ∷ 3 ∷ []) (pos 7 ∷ []) (77 ∷ 77 ∷ [])
    ≡ record { refusal = 0; state = 5 ∷ 1 ∷ 0 ∷ 0 ∷ 0 ∷ 0 ∷ 0 ∷ 1 ∷ 1 ∷ 1 ∷ 1 ∷ 1 ∷ 1 ∷ 2 ∷ 3 ∷ []; sample = pos 0 ∷ []; report = 0 ∷ 0 ∷ [] }
unfolding word_call overlay one_word exceeds word paid charged
totals-at_the_place = refl

-- one slot for the report: 6, and nothing is written
pub slots_refused : word_call [] (0 ∷ 0 ∷ 0 ∷ 0 ∷ 1 ∷ 0 ∷ 0 ∷ 1 ∷ 1 ∷ 1 ∷ 1 ∷ 1 ∷ 1 ∷ 0 ∷ 0 ∷ []) (pos 7 ∷ []) (77 ∷ [])
    ≡ record { refusal = 6; state = 0 ∷ 0 ∷ 0 ∷ 0 ∷ 1 ∷ 0 ∷ 0 ∷ 1 ∷ 1 ∷ 1 ∷ 1 ∷ 1 ∷ 1 ∷ 0 ∷ 0 ∷ []; sample = pos 7 ∷ []; report = 77 ∷ [] }
unfolding word_call
slots_refused = refl
