-- `reading_turns::word_at` meets its contract, by `held-coded`.
-- Assumes nothing.
use mathlib.Core.Path.{refl}
use Rattle.bits.specs.Bits.{bits_of}
use Rattle.readings.proofs.HeldLaws.{held-coded}
use Rattle.reading_turns.proofs.word_at.Goals as goal

pub returns : goal.returns
returns c =
    record {
      is = λ s h.
          held-coded s c.args.medians 0 _ _ _ c.args.written h
          (bits_of c.args.payload.now) c.args.place _ _ refl
          c.zero_run_eligible-run.ensures c.read_word.ensures;
    }
