-- The two starred inputs of `wvpair` print what document 01 says, by computation of the definitions
-- from the input bytes down.
-- Assumes nothing.
use mathlib.Core.Path.{◌≡◌, refl}
use lib.Count.{count_leading_zeros}
use Rattle.bits.specs.Bits.{low, num, bits_of, ones}
use Rattle.bits.specs.Fields.{get_bits, unary}
use Rattle.entropy.specs.Entropy.{word_set, entropy_info, entropy_refusal, is_mono}
use Rattle.entropy.specs.Seed.{any_negative, not_stereo, seed_refusal, seed_medians}
use Rattle.fields.specs.Code.{bit_length, code_of, truncated_binary}
use Rattle.fields.specs.Counts.{counted, run_length, escaped, prefix}
use Rattle.overlay.specs.Overlay.{overlay}
use Rattle.logpack.specs.Exp2Table.{exp2_table}
use Rattle.logpack.specs.LogWord.{mantissa, magnitude, log_word}
use Rattle.medians.specs.Adaptation.{up, down, adapt}
use Rattle.medians.specs.Interval.{low_of, high_of}
use Rattle.readings.specs.Reading.{reading}
use Rattle.word_state.specs.State.{paid, in_run, unbroken, cleared, flagged, after, run_due}
use Rattle.samples.specs.View.{read_refusal, read_entry}
use Rattle.words.specs.Word.{value, plain, fresh, word}
use Rattle.decimal.specs.Decimal.{digits, decimal}
use Rattle.wvpair_lines.specs.Signed.{signed_decimal}
use Rattle.wvpair_lines.specs.Lines.{frame_line, frame_lines, end_line, report}
use Rattle.wvpair_text.specs.Starred.{first_input, first_text, second_input, second_text}
use Rattle.wvpair_text.specs.Text.{frame_count, over_limits, wvpair_text}

-- document 01 (C8)
pub first-printed : wvpair_text first_input ≡ first_text
unfolding wvpair_text over_limits frame_count report frame_lines frame_line end_line signed_decimal decimal digits read_entry read_refusal overlay seed_refusal seed_medians entropy_refusal entropy_info word_set is_mono any_negative not_stereo log_word magnitude mantissa exp2_table reading word fresh plain value paid in_run unbroken cleared flagged after run_due adapt up down low_of high_of prefix escaped run_length counted truncated_binary code_of bit_length count_leading_zeros get_bits unary low num bits_of ones
first-printed = refl

-- document 01 (C9)
pub second-printed : wvpair_text second_input ≡ second_text
unfolding wvpair_text over_limits frame_count report frame_lines frame_line end_line signed_decimal decimal digits read_entry read_refusal overlay seed_refusal seed_medians entropy_refusal entropy_info word_set is_mono any_negative not_stereo log_word magnitude mantissa exp2_table reading word fresh plain value paid in_run unbroken cleared flagged after run_due adapt up down low_of high_of prefix escaped run_length counted truncated_binary code_of bit_length count_leading_zeros get_bits unary low num bits_of ones
second-printed = refl
