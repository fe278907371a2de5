-- Where a flag is set no run length is read (W2). Assumes nothing.
use mathlib.Core.Path.{◌≡◌}
use mathlib.Core.Bool.{Bool, true, false, not, ◌&&◌, and-false}
use lib.Dec.{leb}
use Rattle.entropy.specs.Medians.{Medians}
use Rattle.word_state.specs.State.{run_due}

pub none_due : (r : Bool) (m n : Medians) (z o : Bool) → z ≡ true → (not r && run_due m n z o) ≡ false
unfolding run_due
none_due r m n z o e = rw (e, and-false (leb m.m0 1 && leb n.m0 1), and-false (not r))
