-- `stereo_pair::seed_set` meets its contract: a median that is not negative is a number of its own.
-- Assumes nothing.
use lib.IntN.{pos}
use lib.ListN.{get_or}
use Rattle.entropy.proofs.SeedLaws.{natural, none-negative}
use borrow.Author.Rules.{rules}
use Rattle.stereo_pair.proofs.seed_set.Goals as goal

pub overflow_cast-result : goal.overflow_cast-result
overflow_cast-result c =
    natural (get_or c.args.set 0 (pos 0)) (search rules) (none-negative c.args.set c.requires).n0

pub overflow_cast-result-2 : goal.overflow_cast-result-2
overflow_cast-result-2 c =
    natural (get_or c.args.set 1 (pos 0)) (search rules) (none-negative c.args.set c.requires).n1

pub overflow_cast-result-3 : goal.overflow_cast-result-3
overflow_cast-result-3 c =
    natural (get_or c.args.set 2 (pos 0)) (search rules) (none-negative c.args.set c.requires).n2
