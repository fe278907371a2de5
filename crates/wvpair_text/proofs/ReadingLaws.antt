-- What a reading tells of an input: small numbers, and samples that stand first in a longer list.
-- Assumes nothing.
use mathlib.Core.Path.{◌≡◌, ap}
use mathlib.Core.List.{List, ◌++◌}
use Prim.Native.Nat.{ℕ, ◌*◌, ◌≤◌}
use lib.IntN.{ℤ, pos}
use lib.ListN.{length, take, replicate}
use lib.Seq.{take-append-le}
use Rattle.answers.specs.Numbers.{outcome_number}
use Rattle.samples.proofs.ToldBounds.{SmallTold, read_small}
use Rattle.samples.specs.View.{ReadTold, view_reading}
use Rattle.samples.specs.declared.ReadAnswer.{ReadAnswer}
use Rattle.wvpair_lines.specs.Lines.{report}
use Rattle.wvpair_text.specs.Text.{frame_count, payload_of, printed, reading_of}

-- the numbers that are told of an input are small
pub reading_small : (input : List ℕ)
    → SmallTold (length (payload_of input)) (frame_count input) (reading_of input)
reading_small input =
    read_small (take 12 input) (payload_of input) (frame_count input) (replicate (2 * frame_count input) (pos 0))

-- the samples that an answer tells of, and its numbers, are those of the reading
pub printed-told : (told : ReadTold) (r : ReadAnswer) (list rest : List ℤ) (number : ℕ)
    → view_reading r list ≡ told → r.written ≤ length list → number ≡ outcome_number r.outcome
    → report (take r.written (list ++ rest)) number r.bits ≡ printed told
printed-told told r list rest number e h n = rw (take-append-le r.written list rest h, n) (ap printed e)
