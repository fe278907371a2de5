-- `words::coded::read_coded` meets its contract: a count and a value, joined.
-- Assumes nothing.
use borrow.Author.Rules.{rules}
use mir.Facts.{to_z-of_z}
use mir.Syntax.{w32}
use mir.Val.{SFits}
use Rattle.std.proofs.lemmas.Result.{err_from_is_err_and}
use Rattle.bits.specs.Bits.{bits_of}
use Rattle.entropy.specs.Medians.{medians_of}
use Rattle.words.proofs.JoinLaws.{plain-none, plain-missing, plain-sample}
use Rattle.words.proofs.PartLaws.{missing}
use Rattle.words.proofs.coded.read_coded.Goals as goal

pub returns-in_err-count : goal.returns-in_err-count
returns-in_err-count c =
    let p = err_from_is_err_and c.from_residual.result c.from_residual.ensures.1 in
    rw (p.1, p.2)
    (plain-none (bits_of c.args.payload.now) c.args.place
    (medians_of c.args.medians) c.args.last_zero c.args.last_one _
    (rw c.in_err-count.was at c.read_folded_ones_count.ensures))

pub returns-in_err-value : goal.returns-in_err-value
returns-in_err-value c =
    let e = c.in_err-value.ensures in
    rw (missing _ _ c.from_residual-in_err-value.ensures.1 e.value e.ok_part)
    (plain-missing (bits_of c.args.payload.now) c.args.place
    (medians_of c.args.medians) c.args.last_zero c.args.last_one _
    (rw c.in_ok-count.was at c.read_folded_ones_count.ensures)
    (rw e.ok_part at c.decode_signed_value.ensures))

pub returns : goal.returns
returns c =
    let f : SFits w32 c.in_ok-value.value = search rules in
    rw (to_z-of_z f) (plain-sample (bits_of c.args.payload.now) c.args.place
    (medians_of c.args.medians) c.args.last_zero c.args.last_one _
    (rw c.in_ok-count.was at c.read_folded_ones_count.ensures) c.in_ok-value.value c.in_ok-value.next
    (rw c.in_ok-value.ensures.ok_part at c.decode_signed_value.ensures))
