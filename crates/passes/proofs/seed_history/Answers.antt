-- `passes::seed_history` meets its contract. Assumes nothing.
use Rattle.passes.proofs.SeedLaws.{placed, placed-reversed}
use Rattle.passes.proofs.seed_history.Goals as goal

pub returns-then-reversed : goal.returns-then-reversed
returns-then-reversed c =
    rw c.if-reversed.true (placed-reversed c.args.count c.args.seed.now _ _ c.min-taken.ensures c.copy_from_slice.ensures.after _ c.reverse.ensures.after)

pub returns-else-reversed : goal.returns-else-reversed
returns-else-reversed c =
    rw c.if-reversed.false (placed c.args.count c.args.seed.now _ _ c.min-taken.ensures c.copy_from_slice.ensures.after)
