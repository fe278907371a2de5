-- `run_cross` meets its contract: a turn of the loop is a step, and the loop ends where less than a
-- frame is left. Assumes nothing.
use Rattle.std.proofs.Common.{rules, arith}
use Rattle.passes.specs.Run.{turn}
use Rattle.pass_turns.proofs.FrameLaws.{frame-fits, turned-fits, done-start, done_end}
use Rattle.cross_runs.specs.Cross.{cross_term}
use Rattle.cross_runs.proofs.CrossLaws.{cross_start, cross_turn}
use Rattle.cross_runs.proofs.run_cross.Goals as goal

pub loop-k-init : goal.loop-k-init
loop-k-init c =
    let p = c.args.start in
    done-start (turn c.args.direction (cross_term c.args.second)) p c.args.buffer.now
    (cross_start c.args.second p c.last_of-held_a.ensures c.last_of-held_b.ensures
    c.either-weight.ensures c.either-other.ensures c.either-last.ensures
    (search rules) (search rules) (search rules) (search rules) (search rules) (search rules)
    (search rules) (search rules) (search rules))
    (search rules) (omega arith)

pub loop-k-preserved : goal.loop-k-preserved
loop-k-preserved c =
    cross_turn c.args.direction c.args.second c.args.start c.args.buffer.now
    _ _ _ c.turn-one.result c.turn-two.result
    c.loop-k.invariant (omega arith) c.frame_at-frame.ensures
    c.either-in_one.ensures c.either-in_two.ensures
    c.turn-one.ensures c.turn-two.ensures c.either-out_a.ensures c.either-out_b.ensures
    c.store_frame.ensures (frame-fits _ _ c.frame_at-frame.type_inv)
    (search rules) (search rules)
    (turned-fits _ _ c.turn-one.type_inv) (turned-fits _ _ c.turn-two.type_inv)
    (search rules) (search rules)

pub returns : goal.returns
returns c =
    done_end (turn c.args.direction (cross_term c.args.second)) c.args.start c.args.buffer.now
    c.loop-k.invariant (omega arith) c.with_cross.ensures
