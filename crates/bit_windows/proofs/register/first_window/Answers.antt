-- `first_window` meets its contract: a window at a whole byte, moved on to the place.
-- Assumes nothing.
use native.Mathlib.Omega.{arith}
use mathlib.Core.Path.{◌≡◌}
use Prim.Native.Nat.{◌-◌, ◌/◌, ◌%◌}
use Rattle.bits.proofs.RegisterLaws.{whole-window}
use Rattle.bit_windows.proofs.register.first_window.Goals as goal

pub returns-then-k-eq0 : goal.returns-then-k-eq0
returns-then-k-eq0 c = whole-window c.args.s.now c.args.at _ (omega arith) (omega arith) c.eight-w.ensures

pub moved-requires-clause-window : goal.moved-requires-clause-window
moved-requires-clause-window c =
    let q = c.args.at - c.args.at % 8 in
    let e : c.args.at / 8 ≡ q / 8 = omega arith in
    whole-window c.args.s.now q _ (omega arith) (omega arith) (rw e at c.eight-w.ensures)
