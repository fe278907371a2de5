-- `one_word::in_run` meets its contract.
-- Assumes nothing.
use native.Mathlib.Omega.{arith}
use Rattle.word_state.specs.State.{in_run}
use Rattle.word_state.proofs.StateLaws.{flip_is}
use Rattle.one_word.proofs.in_run.Goals as goal

pub returns : goal.returns
unfolding in_run
returns c = rw (flip_is c.args.state.next_channel (omega arith))
