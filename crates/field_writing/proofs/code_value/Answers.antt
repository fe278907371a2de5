-- `field_writing::code_value` meets its contract.
-- Assumes nothing.
use mathlib.Core.Path.{◌≡◌}
use Prim.Native.Nat.{◌+◌, ◌*◌, ◌%◌, ◌^◌}
use native.Mathlib.Omega.{arith}
use lib.Pow.{shl_exact}
use Rattle.fields.proofs.WrittenLaws.{short-num, long-num}
use borrow.Author.Rules.{rules}
use Rattle.field_writing.proofs.code_value.Goals as goal

-- so the odd bit stays within the word
parity : (c : goal.Else-code-extras) →
    (c.args.code + c.args.extras) % 2 * 2 ^ c.args.digits % 2 ^ 32 ≡
    (c.args.code + c.args.extras) % 2 * 2 ^ c.args.digits
parity c = shl_exact 1 c.args.digits 32 (omega arith) (omega arith)

pub returns-then-code-extras : goal.returns-then-code-extras
returns-then-code-extras c =
    short-num c.args.digits c.args.extras c.args.code c.if-code-extras.true c.requires.extras

pub returns-else-code-extras : goal.returns-else-code-extras
returns-else-code-extras c =
    rw (parity (search rules)) (long-num c.args.digits c.args.extras c.args.code c.if-code-extras.false
    c.requires.code)
