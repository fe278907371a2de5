-- No text is longer than the largest text, and no answer has more bytes.
-- Assumes nothing.
use mathlib.Core.Path.{refl}
use mathlib.Core.Bool.{Bool, true, false, cond}
use mathlib.Core.List.{List, [], ◌∷◌, ◌++◌}
use Prim.Native.Nat.{ℕ, suc, ◌*◌, ◌≤◌, ◌<◌}
use native.Mathlib.Decide.{dec_lt}
use native.Mathlib.Omega.{arith}
use lib.Dec.{ltb}
use lib.IntN.{ℤ, pos}
use lib.ListN.{length, take, get_or, length-append, length-take, length-drop}
use lib.Signed.{mag}
use Rattle.wvpair_lines.specs.Signed.{signed_decimal}
use Rattle.std.specs.Prelude.{Result}
use Rattle.std.specs.Result.{result_unwrap_or}
use Rattle.answers.specs.declared.Refusal.{Refusal}
use Rattle.wvpair_text.specs.Limits.{head_bytes, most_frames, largest_input, largest_text}
use Rattle.wvpair_lines.specs.Lines.{frame_line, frame_lines, end_line, report}
use Rattle.wvpair_text.specs.Text.{frame_count, reading_of, printed, wvpair_text, TextIs}
use Rattle.wvpair_lines.proofs.SignLaws.{signed-short}
use Rattle.wvpair_lines.proofs.LineLaws.{end_short}
use Rattle.wvpair_text.proofs.ReadingLaws.{reading_small}
use Rattle.wvpair_text.proofs.TextLaws.{text-under, text_frames, text-payload, text-reading}

-- the line of two 32-bit numbers is at most 24 bytes
line-short : (left right : ℤ) → mag left < 2147483648 → mag right < 2147483648
    → length (frame_line left right) ≤ 24
unfolding frame_line
line-short left right h k =
    omega (
      arith,
      signed-short left h,
      signed-short right k,
      length-append (signed_decimal left) (32 ∷ (signed_decimal right ++ (10 ∷ []))),
      length-append (signed_decimal right) (10 ∷ []),
    )

-- the lines of 32-bit numbers are at most 12 bytes a number
lines-short : (samples : List ℤ) → ((i : ℕ) → mag (get_or samples i (pos 0)) < 2147483648)
    → length (frame_lines samples) ≤ 12 * length samples
unfolding frame_lines
lines-short [] h = omega arith
lines-short (left ∷ []) h = omega arith
lines-short (left ∷ right ∷ rest) h =
    omega (
      arith,
      length-append (frame_line left right) (frame_lines rest),
      line-short left right (h 0) (h 1),
      lines-short rest (λ i. h (suc (suc i))),
    )

-- what is printed of a reading within the limits
printed-short : (input : List ℕ) → frame_count input ≤ most_frames → length input ≤ largest_input
    → length (printed (reading_of input)) ≤ largest_text
unfolding report
printed-short input h k =
    let told = reading_of input in
    let s = reading_small input in
    let samples = take told.written told.list in
    omega (
      arith,
      length-append (frame_lines samples) (end_line told.refusal told.bits),
      lines-short samples s.samples,
      length-take told.written told.list,
      end_short told.refusal told.bits (omega (arith, s.refusal)) s.refused-before
          (omega (arith, s.bits, length-drop head_bytes input)),
    )

-- and of any input
pub text-short : (input : List ℕ) → length (wvpair_text input) ≤ largest_text
text-short input = go (dec_lt (length input) head_bytes) (dec_lt most_frames (frame_count input))
    (dec_lt largest_input (length input))
  where
    go : Dec (length input < head_bytes) → Dec (most_frames < frame_count input)
        → Dec (largest_input < length input) → length (wvpair_text input) ≤ largest_text
    go (yes a) b c = rw (text-under input a)
        (omega (arith, end_short 1 0 (omega arith) (λ h. refl) (omega arith)))
    go (no a) (yes b) c =
        rw (text_frames input (omega arith) b)
        (omega (arith, end_short 5 0 (omega arith) (λ h. refl) (omega arith)))
    go (no a) (no b) (yes c) =
        rw (text-payload input (omega arith) c)
        (omega (arith, end_short 5 0 (omega arith) (λ h. refl) (omega arith)))
    go (no a) (no b) (no c) =
        rw (text-reading input (omega arith) (omega arith) (omega arith))
        (printed-short input (omega arith) (omega arith))

-- so no call answers more bytes, and a buffer of that size holds what it prints
pub answer-short : (input before after : List ℕ) (r : Result ℕ Refusal) → TextIs input before after r
    → result_unwrap_or r 0 ≤ largest_text
answer-short input before after r t = rw t.size (go (ltb (length before) largest_text))
  where
    go : (b : Bool) → cond b 0 (length (wvpair_text input)) ≤ largest_text
    go true = omega arith
    go false = text-short input
