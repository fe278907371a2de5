-- `page_block::flags` meets its contract: each flag is at most 1.
-- Assumes nothing.
use Prim.Native.Nat.{◌≤◌}
use native.Mathlib.Omega.{arith}
use Rattle.page_block.proofs.RiseLaws.{exceeds-few}
use Rattle.page_block.proofs.flags.Goals as goal

pub overflow_mul-result : goal.overflow_mul-result
overflow_mul-result c =
    let right : c.exceeds-2.result ≤ 1 = rw c.exceeds-2.ensures (exceeds-few _ _) in
    omega arith

pub overflow_add-result : goal.overflow_add-result
overflow_add-result c =
    let left : c.exceeds.result ≤ 1 = rw c.exceeds.ensures (exceeds-few _ _) in
    let right : c.exceeds-2.result ≤ 1 = rw c.exceeds-2.ensures (exceeds-few _ _) in
    omega arith
