-- A number below ten is one byte; any other is its tenth part, laid first, and its last digit.
-- Assumes nothing.
use native.Mathlib.Omega.{arith}
use Rattle.decimal.proofs.DecimalLaws.{decimal-some, more-length}
use Rattle.decimal.proofs.PutLaws.{decimal-one-put, decimal-more-put}
use Prim.Native.Nat.{◌≤◌}
use Rattle.decimal.proofs.number.+put_decimal.Goals as goal

pub put_byte-requires : goal.put_byte-requires
put_byte-requires t c = omega (arith, decimal-some c.args.n, c.requires)

pub returns-then-n-lt10 : goal.returns-then-n-lt10
returns-then-n-lt10 t c = decimal-one-put c.args.n _ c.if-n-lt10.true c.digit.ensures c.put_byte.ensures

pub put_decimal-last-requires : goal.put_decimal-last-requires
put_decimal-last-requires t c =
    let n = c.args.n in
    let h : 10 ≤ n = c.if-n-lt10.false in
    (omega (arith, c.decreases), omega (arith, c.requires, more-length n h))

pub put_byte-requires-2 : goal.put_byte-requires-2
put_byte-requires-2 t c =
    omega (arith, more-length c.args.n c.if-n-lt10.false, c.requires, c.put_decimal-last.ensures.place, c.put_decimal-last.auto.out)

pub returns : goal.returns
returns t c =
    decimal-more-put c.args.n _
    (omega (arith, c.requires))
    c.if-n-lt10.false
    c.digit-2.ensures
    c.put_decimal-last.ensures
    c.put_byte-2.ensures
