-- `entropy_info::is_mono` meets its contract: it tests the length.
-- Assumes nothing.
use mathlib.Core.Path.{refl}
use Rattle.entropy.specs.Entropy.{is_mono}
use Rattle.entropy_info.proofs.is_mono.Goals as goal

pub returns : goal.returns
unfolding is_mono
returns c = refl
