-- `decimal::column::put_column` meets its contract: the last digit, and what stands before it.
-- Assumes nothing.
use mathlib.Core.Path.{refl}
use native.Mathlib.Omega.{arith}
use Rattle.decimal.proofs.ColumnLaws.{room-less, column-put}
use Rattle.decimal.proofs.DecimalLaws.{decimal-some}
use Rattle.decimal.proofs.column.put_column.Goals as goal

-- there is a last byte
pub overflow_sub-last : goal.overflow_sub-last
overflow_sub-last c = omega (arith, c.requires.wide, decimal-some c.args.n)

pub bounds-out-at : goal.bounds-out-at
bounds-out-at c = omega (arith, c.requires.room, c.requires.wide, decimal-some c.args.n)

pub returns : goal.returns
returns c =
    column-put _ _ _ _ c.requires.room c.requires.wide _ _ _ _ refl refl refl c.put_front.ensures

pub put_front-requires-clause-wide : goal.put_front-requires-clause-wide
put_front-requires-clause-wide c =
    room-less _ c.args.n (λ z. omega (arith, c.requires.wide, decimal-some c.args.n))
