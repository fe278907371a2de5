-- `archive_keys::bucket` meets its contract.
-- Assumes nothing.
use mathlib.Core.Path.{refl}
use Rattle.archive_keys.specs.Keys.{bucket_of}
use Rattle.archive_keys.proofs.bucket.Goals as goal

pub returns : goal.returns
unfolding bucket_of
returns c = refl
