-- `get_bits` meets its contract: the bits come out of the window at the place, by `tail-window` and
-- `window-bits`.
-- Assumes nothing.
use borrow.Author.Rules.{rules}
use native.Mathlib.Omega.{arith}
use mathlib.Core.Path.{◌≡◌, sym}
use Prim.Native.Nat.{◌+◌, ◌-◌, ◌*◌, ◌/◌, ◌%◌, ◌^◌, min}
use lib.ListN.{length, length-drop}
use Rattle.bits.specs.Bits.{bits_of}
use Rattle.bits.specs.Fields.{get_bits}
use Rattle.std.specs.Prelude.{Some}
use Rattle.bits.proofs.BitLaws.{shl_one, length-bits}
use Rattle.bits.proofs.ReadLaws.{bits_none, bits_no}
use Rattle.bits.proofs.Window.{tail-window, window-bits}
use Rattle.bit_reading.proofs.get_bits.Goals as goal

pub returns-then-count-eq0 : goal.returns-then-count-eq0
returns-then-count-eq0 c =
    rw c.if-count-eq0.true (sym (bits_none (bits_of c.args.s.now) c.args.at))

pub returns-then-i-s : goal.returns-then-i-s
returns-then-i-s c =
    let bits = bits_of c.args.s.now in
    sym (bits_no bits c.args.at c.args.count (omega (arith, length-drop c.args.at bits, length-bits c.args.s.now)))

pub returns-then-count-s : goal.returns-then-count-s
returns-then-count-s c =
    let bits = bits_of c.args.s.now in
    sym (bits_no bits c.args.at c.args.count (omega (arith, length-drop c.args.at bits, length-bits c.args.s.now)))

read : (c : goal.After-window) →
    get_bits (bits_of c.args.s.now) c.args.at c.args.count
    ≡ Some (c.window.result / 2 ^ (c.args.at % 8) % 2 ^ c.args.count, c.args.at + c.args.count)
read c =
    let s = c.args.s.now in
    window-bits _ _ (8 * min 8 (length s - c.args.at / 8) - c.args.at % 8) _ c.args.count
    (tail-window s c.args.at _ (omega arith) c.window.ensures) (omega arith)

pub returns : goal.returns
returns c =
    let k = c.args.count in rw (shl_one k 64 (omega arith)) (sym (read (search rules)))
