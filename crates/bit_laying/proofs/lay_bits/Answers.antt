-- `lay_bits` meets its contract: a put into the lent rest is one into the buffer, by `put-lent`.
-- Assumes nothing.
use native.Mathlib.Omega.{arith}
use mathlib.Core.Path.{refl}
use Rattle.bits.specs.Bits.{low}
use Rattle.bits.proofs.WriteLaws.{put-lent}
use Rattle.bit_laying.proofs.lay_bits.Goals as goal

pub returns-clause-buffer : goal.returns-clause-buffer
returns-clause-buffer c =
    put-lent c.args.out.now c.put_bits.new.out c.args.at _ (low c.args.count c.args.v)
    (λ i. omega (arith, c.slice_known-1.given i)) (omega arith) refl c.put_bits.ensures
    c.put_bits.auto.out
