-- `stereo_pair::is_not_stereo` meets its contract.
-- Assumes nothing.
use Rattle.entropy.proofs.SeedLaws.{not_stereo-by}
use Rattle.stereo_pair.proofs.is_not_stereo.Goals as goal

pub returns : goal.returns
returns c =
    not_stereo-by _ _ _ _ _ c.requires c.is_mono.ensures c.any_negative.ensures c.any_negative-2.ensures
