-- `join` meets its contract: the two parts do not overlap, so that their sum is the byte and fits.
-- Assumes nothing.
use native.Mathlib.Omega.{arith}
use native.Mathlib.Nat.{mod-lt}
use mathlib.Core.Path.{◌≡◌}
use Prim.Native.Nat.{◌+◌, ◌*◌, ◌%◌, ◌^◌}
use lib.Pow.{pow_pos, shl_exact}
use Rattle.bits.proofs.BitLaws.{shl_one, join_lt}
use Rattle.bit_laying.proofs.join.Goals as goal

-- the byte that is worked out is the one that is meant
same : (c : goal.After-from) →
    c.from.result % (1 * 2 ^ c.args.k % 2 ^ 32) + c.args.v % (1 * 2 ^ c.args.m % 2 ^ 32) * 2 ^ c.args.k % 2 ^ 32
    ≡ c.args.c % 2 ^ c.args.k + c.args.v % 2 ^ c.args.m * 2 ^ c.args.k
same c =
    rw (
      c.from.ensures,
      shl_one c.args.k 32 (omega arith),
      shl_one c.args.m 32 (omega arith),
      shl_exact c.args.m c.args.k 32 (mod-lt c.args.v (pow_pos c.args.m)) (omega arith),
    )

pub overflow_cast-result : goal.overflow_cast-result
overflow_cast-result c =
    omega (arith, same c, join_lt c.args.k c.args.m c.args.c c.args.v 8 (omega arith))
