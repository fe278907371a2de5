-- `int32_sample::put_below` meets its contract: the left shift keeps to 32 bits, and its low bits are
-- free for the number.
-- Assumes nothing.
use Rattle.int32_sample.proofs.MachineLaws.{joined}
use Rattle.int32_sample.proofs.put_below.Goals as goal

pub returns : goal.returns
returns c = joined c.args.count c.requires.count c.args.x c.args.n c.ranges.x c.requires.number
