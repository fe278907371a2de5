-- `put_bits` meets its contract: the loop has put the i low bits, and `put_low` adds those of one
-- byte.
-- Assumes nothing.
use native.Mathlib.Omega.{arith}
use mathlib.Core.Path.{refl, sym, ◌∙◌}
use Rattle.bits.proofs.LaidLaws.{put-none, put_low}
use Rattle.bit_laying.proofs.put_bits.Goals as goal

pub loop-i-init : goal.loop-i-init
loop-i-init c = (omega arith, omega arith, refl, sym (put-none _ _ _))

pub loop-i-preserved : goal.loop-i-preserved
loop-i-preserved c = (
  omega arith,
  omega arith,
  omega arith,
  c.put_chunk.ensures ∙ rw (c.loop-i.invariant.3, c.loop-i.invariant.1)
      (put_low c.args.out.now c.args.at c.loop-i.i c.min-m.result c.args.v (omega arith)),
)
