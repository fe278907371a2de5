-- `words::coded::signed_code` meets its contract, by `signed_in`.
-- Assumes nothing.
use borrow.Author.Rules.{rules}
use native.Mathlib.Omega.{arith}
use mir.Facts.{to_z-of_z}
use mir.Syntax.{w32}
use mir.Val.{SFits}
use Rattle.words.proofs.PartLaws.{signed_in}
use Rattle.words.proofs.coded.signed_code.Goals as goal

pub overflow_shr-sign : goal.overflow_shr-sign
overflow_shr-sign c = omega (arith, c.code_in_window-got.ensures.most 28 (omega arith))

pub returns : goal.returns
returns c =
    let f : SFits w32 c.apply_sign.result = search rules in
    rw (to_z-of_z f, c.apply_sign.ensures) (signed_in c.args.v c.args.low c.args.last
    c.code_in_window-got.result.code c.code_in_window-got.result.used c.code_in_window-got.ensures
    (omega arith))
