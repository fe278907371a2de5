-- `put_chunk` meets its contract: a store to one byte is a put of bits that lie within it, by
-- `put_byte`.
-- Assumes nothing.
use native.Mathlib.Omega.{arith}
use Rattle.bits.specs.Bits.{low}
use Rattle.bits.proofs.BitLaws.{length-low, num-low}
use Rattle.bits.proofs.LaidLaws.{put_byte}
use Rattle.bit_laying.proofs.put_chunk.Goals as goal

pub returns : goal.returns
returns c =
    let f = low c.args.m c.args.v in
    rw (c.join.ensures, ← num-low c.args.m c.args.v)
    (put_byte c.args.out.now c.args.at f (λ i. omega (arith, c.slice_known-2-1.given i)) (omega arith)
    (omega (arith, length-low c.args.m c.args.v))
    (omega (arith, length-low c.args.m c.args.v)))
