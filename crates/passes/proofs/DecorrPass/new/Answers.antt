-- `DecorrPass::new` meets its contract: one law for each of its four answers. Assumes nothing.
use Rattle.std.proofs.Common.{rules, ◌≡◌}
use mathlib.Core.Bool.{◌&&◌}
use lib.Dec.{ltb}
use lib.ListN.{length}
use mir.Syntax.{w8}
use mir.ValLaws.{to_z-of_z}
use Rattle.std.proofs.lemmas.Result.{err_from_is_err_and}
use Rattle.passes.proofs.MakingLaws.{count_small, Known, made_invalid, made-short-a, made-short-b, made-accepted}
use Rattle.passes.proofs.DecorrPass.new.Goals as goal

-- an invalid term
pub returns-then-not-is_valid : goal.returns-then-not-is_valid
returns-then-not-is_valid c =
    made_invalid c.args.term c.args.delta c.args.weight_a c.args.weight_b c.args.seed_a.now c.args.seed_b.now (rw (to_z-of_z w8 _ c.ranges.term) at c.term_of-t.ensures) c.is_valid.ensures c.if-not-is_valid.true

-- an A seed that is too short
pub returns-in_err-seed_length : goal.returns-in_err-seed_length
returns-in_err-seed_length c =
    let k : Known c.args.term c.term_of-t.result c.is_valid.result c.seed_count-count.result =
    record {
      term_is = rw (to_z-of_z w8 _ c.ranges.term) at c.term_of-t.ensures;
      valid-is = c.is_valid.ensures;
      valid = c.if-not-is_valid.false;
      count-is = c.seed_count-count.ensures;
    } in
    let p = err_from_is_err_and c.from_residual.result c.from_residual.ensures.1 in
    rw (p.1, p.2)
    (made-short-a c.args.term c.args.delta c.args.weight_a c.args.weight_b c.args.seed_a.now c.args.seed_b.now k c.seed_length.ensures c.in_err-seed_length.was)

-- a B seed that is too short
pub returns-in_err-seed_length-2 : goal.returns-in_err-seed_length-2
returns-in_err-seed_length-2 c =
    let k : Known c.args.term c.term_of-t.result c.is_valid.result c.seed_count-count.result =
    record {
      term_is = rw (to_z-of_z w8 _ c.ranges.term) at c.term_of-t.ensures;
      valid-is = c.is_valid.ensures;
      valid = c.if-not-is_valid.false;
      count-is = c.seed_count-count.ensures;
    } in
    let q : c.if-is_cross.paired ≡ (c.is_cross.result && ltb 0 (length c.args.seed_a.now)) = search rules in
    let r = c.from_residual-in_err-seed_length-2 in
    let p = err_from_is_err_and r.result r.ensures.1 in
    rw (p.1, p.2)
    (made-short-b c.args.term c.args.delta c.args.weight_a c.args.weight_b c.args.seed_a.now c.args.seed_b.now k c.seed_length.ensures c.in_ok-seed_length.was c.is_cross.ensures (rw q at c.seed_length-2.ensures) c.in_err-seed_length-2.was)

pub seed_history-requires : goal.seed_history-requires
seed_history-requires c = rw (c.seed_count-count.ensures, c.term_of-t.ensures) (count_small _)

pub seed_history-requires-2 : goal.seed_history-requires-2
seed_history-requires-2 c = rw (c.seed_count-count.ensures, c.term_of-t.ensures) (count_small _)

-- a pass that is made
pub returns : goal.returns
returns c =
    let k : Known c.args.term c.term_of-t.result c.is_valid.result c.seed_count-count.result =
    record {
      term_is = rw (to_z-of_z w8 _ c.ranges.term) at c.term_of-t.ensures;
      valid-is = c.is_valid.ensures;
      valid = c.if-not-is_valid.false;
      count-is = c.seed_count-count.ensures;
    } in
    let q : c.if-is_cross.paired ≡ (c.is_cross.result && ltb 0 (length c.args.seed_a.now)) = search rules in
    made-accepted c.args.term c.args.delta c.args.weight_a c.args.weight_b c.args.seed_a.now c.args.seed_b.now k c.seed_length.ensures c.in_ok-seed_length.was c.is_cross.ensures (rw q at c.seed_length-2.ensures) c.in_ok-seed_length-2.was
    c.is_lag-reversed.ensures c.seed_history.ensures c.seed_history-2.ensures c.ranges.term c.ranges.delta c.ranges.weight_a c.ranges.weight_b
