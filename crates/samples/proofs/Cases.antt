-- Worked cases over the definitions: the two starred inputs of `wvpair` and the fields at their caps
-- (document 01), a zero right set (document 02, §2) and log words out of reach (§7).
-- Assumes nothing.
use mathlib.Core.Path.{◌≡◌, refl}
use mathlib.Core.Bool.{Bool, true, false}
use mathlib.Core.List.{List, [], ◌∷◌, ◌++◌}
use Prim.Native.Nat.{ℕ}
use lib.IntN.{ℤ, pos, negsuc}
use lib.Count.{count_leading_zeros}
use lib.ListN.{replicate}
use Rattle.std.specs.Prelude.{Some, None, Ok, Err}
use Rattle.answers.specs.declared.Refusal.{Refusal}
use Rattle.bits.specs.Bits.{low, num, bits_of, ones}
use Rattle.bits.specs.Fields.{get_bits, unary}
use Rattle.entropy.specs.Medians.{medians_of, zero_set}
use Rattle.entropy.specs.Entropy.{word_set, entropy_info, entropy_refusal, is_mono}
use Rattle.entropy.specs.Seed.{any_negative, not_stereo, seed_refusal, seed_medians}
use Rattle.fields.specs.Code.{bit_length, code_of, truncated_binary}
use Rattle.fields.specs.Counts.{counted, run_length, escaped, prefix}
use Rattle.logpack.specs.Exp2Table.{exp2_table}
use Rattle.logpack.specs.LogWord.{mantissa, magnitude, log_word}
use Rattle.medians.specs.Interval.{low_of, high_of}
use Rattle.medians.specs.Adaptation.{up, down, adapt}
use Rattle.overlay.specs.Overlay.{overlay}
use Rattle.word_state.specs.State.{paid, in_run, unbroken, cleared, flagged, after, run_due}
use Rattle.words.specs.Word.{value, plain, fresh, word}
use Rattle.readings.specs.Reading.{reading}
use Rattle.samples.specs.View.{ReadTold, read_refusal, read_entry}

-- the log word 256, six times
abbrev seeds : List ℕ
seeds = 0 ∷ 1 ∷ 0 ∷ 1 ∷ 0 ∷ 1 ∷ 0 ∷ 1 ∷ 0 ∷ 1 ∷ 0 ∷ 1 ∷ []

-- a lent list that holds sevens
abbrev blank : ℕ → List ℤ
blank n = replicate n (pos 7)

-- what a reading tells but the medians: refusal, bits used, samples written, the lent list
abbrev told : ReadTold → ℕ × ℕ × ℕ × List ℤ
told r = (r.refusal, r.bits, r.written, r.list)

-- document 01 (C8): one frame of 7E 02 gives 3 and -1 in 10 bits
pub starred-first : told (read_entry seeds (126 ∷ 2 ∷ []) 1 (blank 2)) ≡ (0, 10, 2, pos 3 ∷ negsuc 0 ∷ [])
unfolding read_entry read_refusal seed_refusal seed_medians entropy_refusal entropy_info word_set is_mono any_negative not_stereo log_word magnitude mantissa exp2_table reading overlay word fresh plain value paid in_run unbroken cleared flagged after run_due adapt up down low_of high_of prefix escaped run_length counted truncated_binary code_of bit_length count_leading_zeros get_bits unary low num bits_of ones
starred-first = refl

-- document 01 (C9): two frames of 07 give four zeros in 6 bits
pub starred-second : told (read_entry seeds (7 ∷ []) 2 (blank 4)) ≡ (0, 6, 4, pos 0 ∷ pos 0 ∷ pos 0 ∷ pos 0 ∷ [])
unfolding read_entry read_refusal seed_refusal seed_medians entropy_refusal entropy_info word_set is_mono any_negative not_stereo log_word magnitude mantissa exp2_table reading overlay word fresh plain value paid in_run unbroken cleared flagged after run_due adapt up down low_of high_of prefix escaped run_length counted truncated_binary code_of bit_length count_leading_zeros get_bits unary low num bits_of ones
starred-second = refl

-- document 01 (R5): a refusal "in the first word .. tells bits 0 and the seed medians"; here its
-- sign is missing
pub refused-first : let r = read_entry seeds (126 ∷ []) 1 (blank 2) in (told r ≡ (3, 0, 0, blank 2)) × (r.medians ≡ seed_medians seeds)
unfolding read_entry read_refusal seed_refusal seed_medians entropy_refusal entropy_info word_set is_mono any_negative not_stereo log_word magnitude mantissa exp2_table reading overlay word fresh plain value paid in_run unbroken cleared flagged after run_due adapt up down low_of high_of prefix escaped run_length counted truncated_binary code_of bit_length count_leading_zeros get_bits unary low num bits_of ones
refused-first = (refl, refl)

-- frames 0 reads no bit (X8)
pub no_frames : told (read_entry seeds [] 0 []) ≡ (0, 0, 0, [])
unfolding read_entry read_refusal seed_refusal seed_medians entropy_refusal entropy_info word_set is_mono any_negative not_stereo log_word magnitude mantissa exp2_table reading overlay bits_of
no_frames = refl

-- document 02, §2 (Q2.3): the same frame where the right set is zero, the log words 256 256 256 0 0
-- 0; the right medians stay 0
pub silent-right-read :
    let r = read_entry (0 ∷ 1 ∷ 0 ∷ 1 ∷ 0 ∷ 1 ∷ replicate 6 0) (126 ∷ 2 ∷ []) 1 (blank 2) in
    (told r ≡ (0, 10, 2, pos 3 ∷ negsuc 0 ∷ [])) × (r.medians.right ≡ medians_of zero_set)
unfolding read_entry read_refusal seed_refusal seed_medians entropy_refusal entropy_info word_set is_mono any_negative not_stereo log_word magnitude mantissa exp2_table reading overlay word fresh plain value paid in_run unbroken cleared flagged after run_due adapt up down low_of high_of prefix escaped run_length counted truncated_binary code_of bit_length count_leading_zeros get_bits unary low num bits_of ones
silent-right-read = (refl, refl)

-- (Q2.2): 6 bytes are refused with 2, and nothing is written
pub six-bytes-refused : told (read_entry (0 ∷ 1 ∷ 0 ∷ 1 ∷ 0 ∷ 1 ∷ []) (126 ∷ 2 ∷ []) 1 (blank 2)) ≡ (2, 0, 0, blank 2)
unfolding read_entry read_refusal seed_refusal entropy_refusal not_stereo is_mono
six-bytes-refused = refl

-- document 02, §7 (Q7.3): the sixth log word is 8192, and nothing is written
pub out_of_reach-refused :
    told (read_entry (0 ∷ 1 ∷ 0 ∷ 1 ∷ 0 ∷ 1 ∷ 0 ∷ 1 ∷ 0 ∷ 1 ∷ 0 ∷ 32 ∷ []) (126 ∷ 2 ∷ []) 1 (blank 2)) ≡ (17, 0, 0, blank 2)
unfolding read_entry read_refusal seed_refusal entropy_refusal is_mono
out_of_reach-refused = refl

-- the first log word of 6 bytes is -8192: 17 comes before 2
pub mono-out_of_reach : told (read_entry (0 ∷ 224 ∷ 0 ∷ 1 ∷ 0 ∷ 1 ∷ []) (126 ∷ 2 ∷ []) 1 (blank 2)) ≡ (17, 0, 0, blank 2)
unfolding read_entry read_refusal seed_refusal entropy_refusal is_mono
mono-out_of_reach = refl

-- and behind 1: five bytes of them
pub short-out_of_reach : told (read_entry (0 ∷ 224 ∷ 0 ∷ 1 ∷ 0 ∷ []) (126 ∷ 2 ∷ []) 1 (blank 2)) ≡ (1, 0, 0, blank 2)
unfolding read_entry read_refusal seed_refusal entropy_refusal is_mono
short-out_of_reach = refl

-- c ones and a zero, and 40 zeros behind them
abbrev field : ℕ → List Bool
field c = replicate c true ++ replicate 41 false

-- runs of 32 and of 33 ones (N1)
pub run_caps : (run_length (field 32) 0 ≡ Some (2147483648, 64)) × (run_length (field 33) 0 ≡ None)
unfolding run_length counted get_bits unary num ones
run_caps = (refl, refl)

-- an escape with 32, 33 and 34 second ones (N2)
pub escape_caps :
    (prefix (replicate 16 true ++ false ∷ field 32) 0 ≡ Ok (2147483664, 81))
    × (prefix (replicate 16 true ++ false ∷ field 33) 0 ≡ Err Refusal.EndOfStream)
    × (prefix (replicate 16 true ++ false ∷ field 34) 0 ≡ Err Refusal.Truncated)
unfolding prefix escaped counted get_bits unary num ones
escape_caps = (refl, refl, refl)
