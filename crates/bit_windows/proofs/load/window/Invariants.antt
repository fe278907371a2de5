-- `window` meets its contract: near the end the loop holds the number of the first j bytes, and
-- `more` adds one.
-- Assumes nothing.
use mathlib.Core.Path.{◌≡◌}
use Prim.Native.Nat.{◌-◌, ◌<◌}
use lib.ListN.{length, take, drop}
use Rattle.bits.specs.Bits.{num, bits_of}
use Rattle.bit_windows.proofs.load.window.Given as goal

abbrev pub invariant-loop-j : goal.invariant-loop-j
invariant-loop-j l = (l.n < 8) × (l.n ≡ length l.s - l.i) × (l.w ≡ num (bits_of (take l.j (drop l.i l.s))))
