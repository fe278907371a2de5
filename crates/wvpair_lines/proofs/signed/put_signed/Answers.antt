-- Both ways by what the test for a negative number tells of the text.
-- Assumes nothing.
use mathlib.Core.Bool.{true, false}
use mathlib.Core.Path.{◌≡◌, ap, ◌∙◌}
use Prim.Native.Nat.{◌≤◌}
use native.Mathlib.Omega.{arith}
use lib.IntN.{pos, nat_abs}
use lib.ListN.{length}
use lib.Signed.{lt_z}
use mir.Facts.{to_z-of_z}
use mir.Syntax.{w32}
use mir.Val.{SFits}
use Rattle.decimal.specs.Decimal.{decimal}
use Rattle.wvpair_lines.proofs.SignLaws.{negative-put, unsigned-put, size-short, signed-short}
use borrow.Author.Rules.{rules}
use Rattle.wvpair_lines.proofs.signed.put_signed.Goals as goal

pub put_decimal-requires : goal.put_decimal-requires
put_decimal-requires c =
    let f : SFits w32 c.args.v = search rules in
    let n : c.from-size.result ≡ nat_abs c.args.v =
    c.from-size.ensures ∙ c.distance.ensures ∙ ap nat_abs (to_z-of_z f) in
    let e : length (decimal c.from-size.result) ≤ 10 = rw n (size-short c.args.v f.sfits) in
    omega (arith, c.requires, c.put_byte-first.ensures.place)

pub put_decimal-requires-else-v-lt0 : goal.put_decimal-requires-else-v-lt0
put_decimal-requires-else-v-lt0 c =
    let f : SFits w32 c.args.v = search rules in
    let n : c.from-size.result ≡ nat_abs c.args.v =
    c.from-size.ensures ∙ c.distance.ensures ∙ ap nat_abs (to_z-of_z f) in
    let e : length (decimal c.from-size.result) ≤ 10 = rw n (size-short c.args.v f.sfits) in
    omega (arith, c.requires)

pub returns-then-v-lt0-clause-text : goal.returns-then-v-lt0-clause-text
returns-then-v-lt0-clause-text c =
    let f : SFits w32 c.args.v = search rules in
    let n : c.from-size.result ≡ nat_abs c.args.v =
    c.from-size.ensures ∙ c.distance.ensures ∙ ap nat_abs (to_z-of_z f) in
    let t : lt_z c.args.v (pos 0) ≡ true = rw (to_z-of_z f) at c.if-v-lt0.true in
    negative-put c.args.v _ (omega (arith, c.requires)) t n c.put_byte-first.ensures c.put_decimal.ensures

pub returns-then-v-lt0-clause-short : goal.returns-then-v-lt0-clause-short
returns-then-v-lt0-clause-short c =
    let f : SFits w32 c.args.v = search rules in
    let n : c.from-size.result ≡ nat_abs c.args.v =
    c.from-size.ensures ∙ c.distance.ensures ∙ ap nat_abs (to_z-of_z f) in
    let t : lt_z c.args.v (pos 0) ≡ true = rw (to_z-of_z f) at c.if-v-lt0.true in
    let l = negative-put c.args.v _ (omega (arith, c.requires)) t n c.put_byte-first.ensures
    c.put_decimal.ensures in
    omega (arith, signed-short c.args.v f.sfits)

pub returns-else-v-lt0-clause-text : goal.returns-else-v-lt0-clause-text
returns-else-v-lt0-clause-text c =
    let f : SFits w32 c.args.v = search rules in
    let n : c.from-size.result ≡ nat_abs c.args.v =
    c.from-size.ensures ∙ c.distance.ensures ∙ ap nat_abs (to_z-of_z f) in
    let t : lt_z c.args.v (pos 0) ≡ false = rw (to_z-of_z f) at c.if-v-lt0.false in
    unsigned-put c.args.v _ t n c.put_decimal-else-v-lt0.ensures

pub returns-else-v-lt0-clause-short : goal.returns-else-v-lt0-clause-short
returns-else-v-lt0-clause-short c =
    let f : SFits w32 c.args.v = search rules in
    let n : c.from-size.result ≡ nat_abs c.args.v =
    c.from-size.ensures ∙ c.distance.ensures ∙ ap nat_abs (to_z-of_z f) in
    let t : lt_z c.args.v (pos 0) ≡ false = rw (to_z-of_z f) at c.if-v-lt0.false in
    let l = unsigned-put c.args.v _ t n c.put_decimal-else-v-lt0.ensures in
    omega (arith, signed-short c.args.v f.sfits)
