-- `window` meets its contract: near the end the loop holds the number of the first j bytes, and
-- `more` adds one.
-- Assumes nothing.
use borrow.Author.Rules.{rules}
use native.Mathlib.Omega.{arith}
use mathlib.Core.Path.{refl}
use Prim.Native.Nat.{◌+◌}
use lib.ListN.{drop}
use Rattle.bits.proofs.Window.{More, more, nothing}
use Rattle.bit_windows.proofs.load.window.Goals as goal

pub loop-j-init : goal.loop-j-init
loop-j-init c = (
  omega arith,
  refl,
  nothing (drop c.args.i c.args.s.now),
)

turn : (c : goal.After-from) →
    More c.args.s.now c.args.i c.loop-j.j c.loop-j.w c.from.result
turn c =
    let e = c.from.ensures in
    more c.args.s.now c.args.i c.loop-j.j c.loop-j.w _ (omega arith) (omega arith) c.loop-j.invariant.2 e
    (omega (arith, e, c.type_inv.s (c.args.i + c.loop-j.j)))

pub overflow_add-w : goal.overflow_add-w
overflow_add-w c = let m = turn (search rules) in omega arith

pub loop-j-preserved : goal.loop-j-preserved
loop-j-preserved c = let m = turn (search rules) in (omega arith, refl, rw m.exact m.same)
