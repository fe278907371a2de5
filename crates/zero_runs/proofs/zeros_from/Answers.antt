-- `zero_runs::zeros_from` meets its contract: so far all were zeros, and the stretch goes on
-- as it does from i.
-- Assumes nothing.
use mathlib.Core.Path.{◌≡◌, sym, ap, ◌∙◌}
use Prim.Native.Nat.{ℕ, suc, ◌+◌}
use native.Mathlib.Numerals.{add-one}
use native.Mathlib.Omega.{arith}
use borrow.Author.Rules.{rules}
use lib.IntN.{pos}
use lib.ListN.{drop, get_or}
use mir.Facts.{to_z-of_z}
use mir.Syntax.{w32}
use mir.Val.{SFits, to_z, of_z}
use Rattle.word_bits.specs.Residuals.{zeros}
use Rattle.word_bits.proofs.ZeroLaws.{zeros-more, zeros-stop, zeros-past}
use Rattle.zero_runs.proofs.zeros_from.Goals as goal

pub returns-then-residuals-i-ne0 : goal.returns-then-residuals-i-ne0
returns-then-residuals-i-ne0 c =
    let vs = c.args.residuals.now in
    omega (
      arith,
      c.loop-i.invariant,
      zeros-stop vs c.loop-i.i (omega arith)
          (λ e. c.if-residuals-i-ne0.true (ap (of_z w32) e)),
    )

pub loop-i-preserved : goal.loop-i-preserved
loop-i-preserved c =
    let vs = c.args.residuals.now in
    let f : SFits w32 (get_or vs c.loop-i.i (pos 0)) = search rules in
    let e : get_or vs c.loop-i.i (pos 0) ≡ pos 0 = sym (to_z-of_z f) ∙ ap
    (to_z w32) c.if-residuals-i-ne0.false in
    let m : zeros (drop (c.loop-i.i + 1) vs) ≡ zeros (drop (suc c.loop-i.i) vs) =
    ap (λ (n : ℕ). zeros (drop n vs)) (add-one c.loop-i.i) in
    omega (arith, c.loop-i.invariant, zeros-more vs c.loop-i.i (omega arith) e)

pub returns : goal.returns
returns c =
    omega (
      arith,
      c.loop-i.invariant,
      zeros-past c.args.residuals.now c.loop-i.i (omega arith),
    )
