-- `archive_keys::repeats` meets its contract.
-- Assumes nothing.
use native.Mathlib.Omega.{arith}
use borrow.Author.Tests.{eq-eqb, ne_eqb}
use Rattle.archive_keys.specs.Chains.{elsewhere}
use Rattle.archive_keys.proofs.repeats.Goals as goal

pub returns-then-key-other : goal.returns-then-key-other
unfolding elsewhere
returns-then-key-other c = rw (eq-eqb c.args.key c.args.other (omega arith))

pub returns-else-key-other : goal.returns-else-key-other
unfolding elsewhere
returns-else-key-other c = rw (ne_eqb c.args.key c.args.other (λ e. omega arith))
