-- `put_unary` meets its contract: two puts are one of both fields joined, by `put_two`.
-- Assumes nothing.
use native.Mathlib.Omega.{arith}
use mathlib.Core.Path.{sym, ap, ◌∙◌}
use Prim.Native.Nat.{ℕ, ◌+◌}
use Rattle.bits.specs.Bits.{low}
use Rattle.bits.specs.Laid.{put}
use Rattle.bits.proofs.BitLaws.{length-low}
use Rattle.bits.proofs.WriteLaws.{put_two, unary-parts}
use Rattle.bits.proofs.RoundTrip.{length-unary}
use Rattle.bit_laying.proofs.put_unary.Goals as goal

pub put_bits-requires-clause-room : goal.put_bits-requires-clause-room
put_bits-requires-clause-room c = omega (arith, length-unary c.args.c)

pub put_bits-requires-2-clause-room : goal.put_bits-requires-2-clause-room
put_bits-requires-2-clause-room c =
    omega (arith, length-unary c.args.c, c.put_bits.auto.out)

pub returns-clause-buffer : goal.returns-clause-buffer
returns-clause-buffer c =
    let n = length-unary c.args.c in
    c.put_bits-2.ensures
    ∙ put_two c.args.out.now _ c.args.at _ (low c.args.c 4294967295) (low 1 0)
    c.put_bits.ensures
    (ap (λ (k : ℕ). c.args.at + k) (sym (length-low c.args.c 4294967295))) (omega arith)
    ∙ ap (put c.args.out.now c.args.at) (sym (unary-parts c.args.c (omega arith)))

pub returns-clause-next : goal.returns-clause-next
returns-clause-next c =
    let n = length-unary c.args.c in
    omega arith
