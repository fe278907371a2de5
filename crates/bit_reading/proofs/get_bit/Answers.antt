-- `get_bit` meets its contract: inside the payload by `bit_read_lem`, past its end by `bits_no`.
-- Assumes nothing.
use native.Mathlib.Omega.{arith}
use mathlib.Core.Path.{sym}
use lib.ListN.{length-drop}
use Rattle.bits.specs.Bits.{bits_of}
use Rattle.bits.proofs.BitLaws.{length-bits}
use Rattle.bits.proofs.ReadLaws.{bits_no, bit_read_lem}
use Rattle.bit_reading.proofs.get_bit.Goals as goal

pub returns-in_err-byte : goal.returns-in_err-byte
returns-in_err-byte c =
    let bits = bits_of c.args.s.now in
    let k = c.in_err-byte.ensures.lookup in
    rw c.from_residual.ensures
    (sym (bits_no bits c.args.at 1
    (omega (arith, k.3, length-drop c.args.at bits, length-bits c.args.s.now))))

pub returns : goal.returns
returns c =
    let k = c.in_ok-byte.ensures.lookup in
    rw (c.from.ensures, k.3.1 0) (sym (bit_read_lem c.args.s.now c.args.at k.3.0))
