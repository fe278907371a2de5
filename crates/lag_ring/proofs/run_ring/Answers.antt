-- `run_ring` meets its contract: a turn of the loop is a step, and the loop ends where less than a
-- frame is left. Assumes nothing.
use Rattle.std.proofs.Common.{rules, arith}
use Rattle.passes.specs.Run.{turn}
use Rattle.passes.specs.declared.Term.TheVariants.{Lag}
use Rattle.pass_turns.proofs.FrameLaws.{frame-fits, turned-fits, done_end}
use Rattle.lag_ring.proofs.LagLaws.{lag_turn}
use Rattle.lag_ring.proofs.run_ring.Goals as goal

pub loop-buffer-preserved : goal.loop-buffer-preserved
loop-buffer-preserved c =
    lag_turn c.args.direction c.args.lag c.args.start c.args.buffer.now c.turn-a.result
    c.turn-b.result
    c.loop-buffer.invariant (omega arith) c.frame_at-frame.ensures
    c.turn-a.ensures c.turn-b.ensures
    c.store_frame.ensures
    (search rules) (search rules)
    (frame-fits _ _ c.frame_at-frame.type_inv) (turned-fits _ _ c.turn-a.type_inv)
    (turned-fits _ _ c.turn-b.type_inv)

pub returns : goal.returns
returns c =
    done_end (turn c.args.direction (Lag c.args.lag)) c.args.start c.args.buffer.now
    c.loop-buffer.invariant (omega arith) c.with_state.ensures
