-- What the struct of the word state stands for.
-- Assumes nothing.
use Rattle.std.specs.Prelude.{ℕ, List, get_or}
use Rattle.entropy.specs.Medians.{pair_of}
use Rattle.word_state.specs.State.{BitsRead, State}
use Rattle.word_state.specs.declared.StereoDecodeState.{StereoDecodeState}

-- the totals that an array of two holds: channel 0 is left, channel 1 right
abbrev pub bits_read_of : List ℕ → BitsRead
bits_read_of totals = record { left = get_or totals 0 0; right = get_or totals 1 0 }

-- the state that the struct holds
abbrev pub state_of : StereoDecodeState → State
state_of s = record {
  left = (pair_of s.medians).left;
  right = (pair_of s.medians).right;
  last_zero = s.last_zero;
  last_one = s.last_one;
  debt = s.zero_run_pending;
  run_break = s.run_break;
  ever_run = s.ever_took_zero_run;
  channel = s.next_channel;
  bits_read = bits_read_of s.bits_read;
}
