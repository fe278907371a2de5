-- `moved` meets its contract, by `window-moved`: what stands behind the 64 bits is the second window.
-- Assumes nothing.
use borrow.Author.Rules.{rules}
use native.Mathlib.Omega.{arith}
use Prim.Native.Nat.{◌+◌, ◌-◌, ◌*◌, ◌/◌, ◌%◌, ◌^◌}
use Rattle.bits.specs.Bits.{bits_of}
use Rattle.bits.specs.Window.{Window}
use Rattle.bits.proofs.RegisterLaws.{ahead-window, window-moved}
use Rattle.bit_windows.proofs.register.moved.Goals as goal

-- the bits at the new place
here : (c : goal.After-eight) →
    Window (bits_of c.args.s.now) (c.args.at + c.args.used) 64
    (c.args.w / 2 ^ c.args.used + c.eight.result / 2 ^ (c.args.at % 8) * 2 ^ (64 - c.args.used) % 2 ^ 64)
here c =
    let s = c.args.s.now in
    window-moved (bits_of s) c.args.at c.args.used (64 - c.args.at % 8) c.args.w _ c.requires.window
    (ahead-window s c.args.at _ (omega arith) c.eight.ensures) (omega arith) (omega arith)

pub overflow_add-result : goal.overflow_add-result
overflow_add-result c = omega (arith, (here (search rules)).small)

pub returns : goal.returns
returns c = here (search rules)
