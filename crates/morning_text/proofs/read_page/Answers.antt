-- `morning_text::read_page` meets its contract: the reading's samples stand first in the local list,
-- whose first zeros are lent.
-- Assumes nothing.
use mathlib.Core.Path.{◌≡◌, sym, ap, ◌∙◌}
use mathlib.Core.List.{List}
use Prim.Native.Nat.{ℕ, ◌-◌, ◌*◌, ◌≤◌}
use native.Mathlib.Omega.{arith}
use lib.IntN.{ℤ, pos}
use lib.ListN.{length, take, drop, replicate, length-drop, length-append}
use lib.Seq.{length-take-le, take_all, take_at}
use Rattle.answers.specs.Limits.{max_frames}
use Rattle.answers.specs.Numbers.{outcome_number}
use Rattle.morning_text.specs.Input.{head_bytes, frame_count, reading_of}
use Rattle.morning_text.proofs.InputLaws.{input_passed, input_read}
use Rattle.samples.proofs.SilenceLaws.{zeros, take-zeros}
use Rattle.samples.specs.View.{ReadTold, read_entry}
use Rattle.morning_text.proofs.read_page.Goals as goal

-- the list that is lent, and the bytes of the payload
pub slice_bounds-decode_packed_samples_stereo_from_entropy-end :
    goal.slice_bounds-decode_packed_samples_stereo_from_entropy-end
slice_bounds-decode_packed_samples_stereo_from_entropy-end c =
    sym (length-take-le 12 c.args.input.now (omega arith))

pub slice_bounds-decode_packed_samples_stereo_from_entropy-end-3 :
    goal.slice_bounds-decode_packed_samples_stereo_from_entropy-end-3
slice_bounds-decode_packed_samples_stereo_from_entropy-end-3 c =
    sym (length-take-le _ _ (omega (arith, c.silence-samples.ensures.room)))

-- what was read, by the reading definition
known : (input : List ℕ) (frames : ℕ) (lent : List ℤ) (told : ReadTold) → head_bytes ≤ length input
    → frames ≡ frame_count input → frames ≤ max_frames → lent ≡ replicate 262144 (pos 0)
    → told ≡ read_entry (take 12 input) (take (length input - 16) (drop 16 input)) frames
    (take (2 * frames) lent)
    → told ≡ reading_of input
known input frames lent told h f m z e =
    let n = 2 * frames in
    let first : take n lent ≡ zeros n = ap (take n) z ∙ take-zeros n 262144 (omega arith) in
    let rest : take (length input - 16) (drop 16 input) ≡ drop 16 input =
    take_all (length input - 16) (drop 16 input) (omega (arith, length-drop 16 input)) in
    let entropy = take 12 input in
    e ∙ ap (λ (payload : List ℕ). read_entry entropy payload frames (take n lent)) rest
    ∙ ap (read_entry entropy (drop 16 input) frames) first
    ∙ ap (λ (k : ℕ). read_entry entropy (drop 16 input) k (zeros (2 * k))) f

pub returns-in_err-answer : goal.returns-in_err-answer
returns-in_err-answer c =
    let k = known c.args.input.now c.args.frames c.silence-samples.result _ c.requires.head
    c.requires.frames.0 c.requires.frames.1 c.silence-samples.ensures.zeros
    c.decode_packed_samples_stereo_from_entropy-answer.ensures in
    let n = ap outcome_number c.in_err-answer.was in
    input_passed _ _ _ _ c.in_err-answer.field-0.0 c.from_residual.ensures.1 c.requires.head (sym (ap (λ (t : ReadTold). t.refusal) k) ∙ n)

-- the list that was lent has its length
lent_length : (frames : ℕ) (lent out : List ℤ) → frames ≤ max_frames → length lent ≡ 262144
    → length out ≡ length (take (2 * frames) lent) → length out ≡ 2 * frames
lent_length frames lent out m r e = e ∙ length-take-le (2 * frames) lent (omega arith)

pub slice_bounds-samples-end-2 : goal.slice_bounds-samples-end-2
slice_bounds-samples-end-2 c =
    let e = lent_length c.args.frames c.silence-samples.result _ c.requires.frames.1
    c.silence-samples.ensures.room c.decode_packed_samples_stereo_from_entropy-answer.auto.out in
    simp length-append (omega arith)

pub slice_bounds-morning_page-end : goal.slice_bounds-morning_page-end
slice_bounds-morning_page-end c =
    let e = lent_length c.args.frames c.silence-samples.result _ c.requires.frames.1
    c.silence-samples.ensures.room c.decode_packed_samples_stereo_from_entropy-answer.auto.out in
    sym (length-take-le _ _ (simp length-append (omega arith)))

pub returns : goal.returns
returns c =
    let n = 2 * c.args.frames in
    let e = lent_length c.args.frames c.silence-samples.result _ c.requires.frames.1
    c.silence-samples.ensures.room c.decode_packed_samples_stereo_from_entropy-answer.auto.out in
    let part = take_at c.decode_packed_samples_stereo_from_entropy-answer.new.out
    (drop n c.silence-samples.result) n e in
    let k = known c.args.input.now c.args.frames c.silence-samples.result _ c.requires.head
    c.requires.frames.0 c.requires.frames.1 c.silence-samples.ensures.zeros
    c.decode_packed_samples_stereo_from_entropy-answer.ensures in
    rw part at c.morning_page.ensures
    ∙ input_read _ _ _ _ c.requires.head k (ap outcome_number c.in_ok-answer.was)
