-- `logpack::expand_magnitude` meets its contract: a mantissa of nine bits is shifted right, or left
-- within 40 bits and then narrowed.
-- Assumes nothing.
use Prim.Native.Nat.{◌-◌, ◌/◌}
use mathlib.Core.Path.{◌∙◌}
use native.Mathlib.Omega.{arith}
use mir.Syntax.{w32}
use mir.ValLaws.{to_z_pos}
use Rattle.logpack.proofs.LogWordLaws.{shrunk_lt, magnitude-right, left-raw}
use borrow.Author.Rules.{rules}
use Rattle.logpack.proofs.expand_magnitude.Goals as goal

pub overflow_cast-result : goal.overflow_cast-result
overflow_cast-result c =
    rw c.mantissa.ensures (record { sfits = omega (arith, shrunk_lt c.args.word (9 - c.args.word / 256)) })

pub returns-then-exponent-le9 : goal.returns-then-exponent-le9
returns-then-exponent-le9 c =
    rw (c.mantissa.ensures, magnitude-right c.args.word (search rules))
    (to_z_pos w32 _ (omega (arith, shrunk_lt c.args.word (9 - c.args.word / 256))))

pub returns-else-exponent-le9 : goal.returns-else-exponent-le9
returns-else-exponent-le9 c =
    left-raw _ _ _ (c.from.ensures ∙ c.mantissa-else-exponent-le9.ensures) c.narrow.ensures (search rules)
