-- `archive_keys::supersedes` meets its contract.
-- Assumes nothing.
use native.Mathlib.Omega.{arith}
use borrow.Author.Tests.{eq-eqb, ne_eqb}
use Prim.Native.Nat.{◌/◌}
use Rattle.archive_keys.specs.Keys.{beats}
use Rattle.archive_keys.proofs.supersedes.Goals as goal

pub returns-then-key-other : goal.returns-then-key-other
unfolding beats
returns-then-key-other c = rw (eq-eqb (c.args.key / 65536) (c.args.other / 65536) (omega arith))

pub returns-else-key-other : goal.returns-else-key-other
unfolding beats
returns-else-key-other c = rw (ne_eqb (c.args.key / 65536) (c.args.other / 65536) (λ e. omega arith))
