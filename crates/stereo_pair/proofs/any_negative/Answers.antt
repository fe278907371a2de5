-- `stereo_pair::any_negative` meets its contract: each median is tested.
-- Assumes nothing.
use lib.IntN.{pos}
use lib.ListN.{get_or}
use Rattle.entropy.specs.Seed.{any_negative}
use Rattle.entropy.proofs.SignTests.{negative-bits}
use borrow.Author.Rules.{rules}
use Rattle.stereo_pair.proofs.any_negative.Goals as goal

pub returns : goal.returns
unfolding any_negative
returns c =
    let set = c.args.set in
    rw (
      negative-bits (get_or set 0 (pos 0)) (search rules),
      negative-bits (get_or set 1 (pos 0)) (search rules),
      negative-bits (get_or set 2 (pos 0)) (search rules),
    )
