-- `int32_literals::literal_at` meets its contract: the bits come out of the window at the place.
-- Assumes nothing.
use mathlib.Core.Path.{◌≡◌, ap, ◌∙◌}
use Prim.Native.Nat.{ℕ, ◌*◌, ◌/◌, ◌%◌, ◌^◌}
use native.Mathlib.Omega.{arith}
use lib.ListN.{take, drop}
use borrow.Author.Rules.{rules}
use Rattle.bits.specs.Bits.{num, bits_of}
use Rattle.bits.proofs.BitLaws.{shl_one}
use Rattle.int32_literals.proofs.LiteralLaws.{literal-bits}
use Rattle.int32_literals.proofs.literal_at.Goals as goal

-- what the code cuts out of the window
cut : (c : goal.After-window) →
    c.window.result / 2 ^ (c.args.at % 8) % (1 * 2 ^ c.args.count % 18446744073709551616)
    ≡ num (take c.args.count (drop c.args.at (bits_of c.args.literal.now)))
cut c =
    ap (λ (m : ℕ). c.window.result / 2 ^ (c.args.at % 8) % m)
    (shl_one c.args.count 64 (omega (arith, c.requires.width)))
    ∙ literal-bits c.args.literal.now c.args.at c.args.count _ c.requires.width c.requires.room
    c.window.ensures

pub returns : goal.returns
returns c = cut (search rules)
