-- The reading's samples stand first in the local list, whose first zeros are lent.
-- Assumes nothing.
use Rattle.std.proofs.Common.{◌≡◌, sym, ap, ◌∙◌, List, ◌++◌, ℕ, ◌-◌, ◌*◌, ◌≤◌, arith, ℤ, pos, length, take, drop, replicate}
use Rattle.std.proofs.Common.{length-take, length-drop, length-append, length-take-le, take_all}
use Rattle.answers.specs.Numbers.{outcome_number}
use Rattle.decimal.proofs.PutLaws.{put_as}
use Rattle.samples.proofs.SilenceLaws.{take-zeros}
use Rattle.samples.specs.View.{ReadTold, view_reading, read_entry}
use Rattle.samples.specs.declared.ReadAnswer.{ReadAnswer}
use Rattle.wvpair_lines.specs.Lines.{end_line, report}
use Rattle.wvpair_text.specs.Text.{frame_count, printed, reading_of}
use Rattle.wvpair_lines.proofs.LineLaws.{end_short}
use Rattle.wvpair_text.proofs.ReadingLaws.{reading_small, printed-told}
use Rattle.wvpair_text.proofs.print_reading.Goals as goal

-- the reading of what is lent
abbrev read_lent : List ℕ → ℕ → List ℤ → ReadTold
read_lent input frames silent =
    read_entry (take 12 input) (take (length input - 14) (drop 14 input)) frames (take (2 * frames) silent)

-- what is lent, and what is told of the reading then
record Lent (input : List ℕ) (frames : ℕ) (silent : List ℤ) (r : ReadAnswer) (list : List ℤ) : Type 0 where
  head : 14 ≤ length input
  long : length input ≤ 28686
  count : frames ≡ frame_count input
  most : frames ≤ 1024
  zeros : silent ≡ replicate 2048 (pos 0)
  size : length list ≡ length (take (2 * frames) silent)
  told : view_reading r list ≡ read_lent input frames silent

module _ {input : List ℕ} {frames : ℕ} {silent : List ℤ} {r : ReadAnswer} {list : List ℤ}
    (k : Lent input frames silent r list) where
  -- what was read, by the reading definition
  known : view_reading r list ≡ reading_of input
  known =
      let n = 2 * frames in
      let zeros : take n silent ≡ replicate n (pos 0) =
      ap (take n) k.zeros ∙ take-zeros n 2048 (omega (arith, k.most)) in
      let rest : take (length input - 14) (drop 14 input) ≡ drop 14 input =
      take_all (length input - 14) (drop 14 input) (omega (arith, length-drop 14 input)) in
      rw (zeros, rest, k.count) at k.told

  -- what was read is small
  within : r.written ≤ length list
  within =
      let w : r.written ≡ (reading_of input).written = ap (λ (t : ReadTold). t.written) known in
      let lent : length (take (2 * frames) silent) ≡ 2 * frames =
      length-take-le (2 * frames) silent (omega (arith, ap length k.zeros, k.most)) in
      omega (arith, w, (reading_small input).written, k.count, k.size, lent)

  lent : length list ≡ 2 * frames
  lent = k.size ∙ length-take-le (2 * frames) silent (omega (arith, ap length k.zeros, k.most))

  -- the `end` line of what was read is short
  end : (number : ℕ) → number ≡ outcome_number r.outcome → length (end_line number r.bits) ≤ 18
  end number e =
      let s = reading_small input in
      let c : outcome_number r.outcome ≡ (reading_of input).refusal = ap (λ (t : ReadTold). t.refusal) known in
      let b : r.bits ≡ (reading_of input).bits = ap (λ (t : ReadTold). t.bits) known in
      end_short number r.bits (omega (arith, e, c, s.refusal)) (λ h. b ∙ s.refused-before (omega (arith, e, c)))
      (omega (arith, b, s.bits, length-drop 14 input, k.long))

  -- what is printed of the answer is what is printed of the reading
  laid : (rest : List ℤ) (number : ℕ) → number ≡ outcome_number r.outcome
      → report (take r.written (list ++ rest)) number r.bits ≡ printed (reading_of input)
  laid rest number e = printed-told (reading_of input) r list rest number known within e

lent-of : {input : List ℕ} {frames : ℕ} {silent : List ℤ} (r : ReadAnswer) {list : List ℤ}
    → (14 ≤ length input) × (length input ≤ 28686) → (frames ≡ frame_count input) × (frames ≤ 1024)
    → silent ≡ replicate 2048 (pos 0) → length list ≡ length (take (2 * frames) silent)
    → view_reading r list ≡ read_lent input frames silent
    → Lent input frames silent r list
lent-of r h f z l t = record { head = h.0; long = h.1; count = f.0; most = f.1; zeros = z; size = l; told = t }

pub slice_bounds-decode_packed_samples_stereo_from_entropy-end :
    goal.slice_bounds-decode_packed_samples_stereo_from_entropy-end
slice_bounds-decode_packed_samples_stereo_from_entropy-end c = sym (length-take-le 12 c.args.input.now (omega arith))

pub slice_bounds-samples-end-2 : goal.slice_bounds-samples-end-2
slice_bounds-samples-end-2 c =
    let read = c.decode_packed_samples_stereo_from_entropy-answer in
    let k = lent-of read.result c.requires.input c.requires.frames c.silence-samples.ensures read.auto.out read.ensures in
    simp length-append (omega (arith, within k))

pub slice_bounds-put_report-end : goal.slice_bounds-put_report-end
slice_bounds-put_report-end c =
    let read = c.decode_packed_samples_stereo_from_entropy-answer in
    let k = lent-of read.result c.requires.input c.requires.frames c.silence-samples.ensures read.auto.out read.ensures in
    simp (length-take, length-append) (omega (arith, within k))

pub put_report-requires : goal.put_report-requires
put_report-requires c =
    let read = c.decode_packed_samples_stereo_from_entropy-answer in
    let k = lent-of read.result c.requires.input c.requires.frames c.silence-samples.ensures read.auto.out read.ensures in
    simp (length-take, length-append)
    (omega (arith, c.requires.room, within k, lent k, c.requires.frames.1, end k _ c.outcome_number.ensures))

pub returns : goal.returns
returns c =
    let read = c.decode_packed_samples_stereo_from_entropy-answer in
    let k = lent-of read.result c.requires.input c.requires.frames c.silence-samples.ensures read.auto.out read.ensures in
    put_as (laid k _ _ c.outcome_number.ensures) c.put_report.ensures
