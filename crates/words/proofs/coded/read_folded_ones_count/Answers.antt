-- `words::coded::read_folded_ones_count` meets its contract: each way out is a law of the count.
-- Assumes nothing.
use native.Mathlib.Omega.{arith}
use mathlib.Core.Path.{sym, ◌∙◌}
use Prim.Native.Nat.{◌%◌}
use Rattle.std.proofs.lemmas.Result.{err_from_is_err_and}
use Rattle.bits.specs.Bits.{bits_of}
use Rattle.words.proofs.PartLaws.{flag-is, odd_is, count-zero, count_none, count-read}
use Rattle.words.proofs.coded.read_folded_ones_count.Goals as goal

pub returns-then-last_zero : goal.returns-then-last_zero
returns-then-last_zero c =
    rw c.if-last_zero.true (count-zero (bits_of c.args.payload.now) c.args.place c.args.last_one)

pub returns-in_err-raw : goal.returns-in_err-raw
returns-in_err-raw c =
    let p = err_from_is_err_and c.from_residual.result c.from_residual.ensures.1 in
    rw (p.1, p.2, c.if-last_zero.false)
    (count_none (bits_of c.args.payload.now) c.args.place c.args.last_one _
    (sym c.read_raw_prefix.ensures ∙ c.in_err-raw.was))

pub returns : goal.returns
returns c =
    rw (c.if-last_zero.false, c.from.ensures, flag-is c.args.last_one, odd_is (c.in_ok-raw.raw % 2) (omega arith))
    (count-read (bits_of c.args.payload.now) c.args.place c.args.last_one _ _
    (sym c.read_raw_prefix.ensures ∙ c.in_ok-raw.was))
