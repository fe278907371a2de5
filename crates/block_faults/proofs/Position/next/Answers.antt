-- `block_faults::Position::next` meets its contract: behind a block that is not its last a
-- recording goes on.
-- Assumes nothing.
use mathlib.Core.Path.{sym, ◌∙◌}
use native.Mathlib.Omega.{arith}
use Rattle.block_faults.proofs.AskedLaws.{next_within}
use Rattle.block_faults.proofs.Position.next.Goals.{then-is_last, else-is_last}
use Rattle.block_faults.proofs.Position.next.Goals as goal

pub invariant_of-result : goal.invariant_of-result
invariant_of-result c = elim c.if-is_last.branch [
  | then-is_last w ↦ record { small = c.args.self.small; within = omega (arith, w.before-is) }
  | else-is_last w ↦
      let h = next_within _ _ (sym c.is_last.ensures ∙ w.if-is_last.false) in
      record { small = c.args.self.small; within = omega (arith, w.before-is, h) }
]
