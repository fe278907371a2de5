-- `put_gathered` meets its contract: after i turns the first i bytes are stored, and
-- `left` holds the bits that are not.
-- Assumes nothing.
use Prim.Native.Nat.{◌+◌, ◌*◌, ◌%◌, ◌^◌}
use native.Mathlib.Omega.{arith}
use borrow.Author.Rules.{rules}
use Rattle.bits.proofs.GatheredLaws.{laying_start, laying_step, laying_end, Begun, begun}
use Rattle.gathered_laying.proofs.put_gathered.Goals as goal
use Rattle.gathered_laying.proofs.put_gathered.Goals.{After-from}

-- what the code joins before the loop
joins : (c : After-from) →
    Begun c.args.out.now c.args.at c.args.count c.args.value
    (c.from.result % (1 * 2 ^ c.args.at % 2 ^ 64) + c.args.value * 2 ^ c.args.at % 2 ^ 64)
joins c =
    rw c.from.ensures (begun c.args.out.now c.args.at c.args.count c.args.value (omega arith) (omega arith)
    c.requires.value (omega arith) (omega arith))

pub overflow_add-left : goal.overflow_add-left
overflow_add-left c = record { fits = (joins (search rules)).fits }

pub loop-i-init : goal.loop-i-init
loop-i-init c = laying_start _ _ _ (joins (goal.at.loop-i-init c).After-from).begins

pub loop-i-preserved : goal.loop-i-preserved
loop-i-preserved c = laying_step _ _ c.loop-i.out c.loop-i.left c.loop-i.i (omega arith) c.loop-i.invariant

pub returns : goal.returns
returns c =
    laying_end c.args.out.now c.args.at c.args.count c.args.value c.loop-i.out c.loop-i.left c.loop-i.i (omega arith)
    (omega arith) (omega arith) (omega arith) c.loop-i.invariant
