-- `get_unary_in_bytes` meets its contract: the loop has passed ones only, and by `counted` the
-- byte of p ends them or is passed too.
-- Assumes nothing.
use native.Mathlib.Omega.{arith}
use mathlib.Core.Path.{◌≡◌, sym}
use mathlib.Core.List.{List}
use Prim.Native.Nat.{◌-◌, ℕ, ◌*◌, ◌<◌, ◌/◌, ◌%◌, ◌^◌}
use lib.Count.{count_trailing_zeros}
use lib.ListN.{length, get_or, length-drop}
use Rattle.bits.specs.Bits.{bits_of}
use Rattle.bits.proofs.BitLaws.{length-bits}
use Rattle.bits.proofs.OnesLaws.{Counted, counted, passed_on, passed-stop, passed-end}
use Rattle.bits.proofs.Window.{byte-window}
use Rattle.unary_reading.proofs.get_unary_in_bytes.Goals as goal

-- what the count of the byte of p says
here : (s : List ℕ) (p n : ℕ) → p / 8 < length s → get_or s (p / 8) 0 < 256
    → n ≡ count_trailing_zeros 8 (2 ^ 8 - 1 - get_or s (p / 8) 0 / 2 ^ (p % 8))
    → Counted (bits_of s) p (8 * 1 - p % 8) n
here s p n inside byte e =
    rw e (counted (bits_of s) p (8 * 1 - p % 8) 8 _ (byte-window s p inside byte) (omega arith))

pub returns-then-n-k-lt8 : goal.returns-then-n-k-lt8
returns-then-n-k-lt8 c =
    let h =
    here c.args.s.now c.loop-p.p _ (omega arith) (omega (arith, c.type_inv.s (c.loop-p.p / 8)))
    c.trailing_ones-n.ensures in
    sym (passed-stop c.loop-p.invariant h (omega arith))

pub loop-p-preserved : goal.loop-p-preserved
loop-p-preserved c =
    let h =
    here c.args.s.now c.loop-p.p _ (omega arith) (omega (arith, c.type_inv.s (c.loop-p.p / 8)))
    c.trailing_ones-n.ensures in
    passed_on _ c.loop-p.invariant h (omega arith) (omega arith)

pub returns : goal.returns
returns c =
    let p = c.loop-p.p in
    let bits = bits_of c.args.s.now in
    sym (passed-end c.loop-p.invariant (omega (arith, length-drop p bits, length-bits c.args.s.now)))
