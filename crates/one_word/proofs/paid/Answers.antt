-- `one_word::paid` meets its contract.
-- Assumes nothing.
use native.Mathlib.Omega.{arith}
use Rattle.word_state.specs.State.{paid}
use Rattle.word_state.proofs.StateLaws.{flip_is}
use Rattle.one_word.proofs.paid.Goals as goal

pub returns : goal.returns
unfolding paid
returns c = rw (flip_is c.args.state.next_channel (omega arith))
