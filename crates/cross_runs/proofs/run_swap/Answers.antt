-- `run_swap` meets its contract: a turn of the loop is a step, and the loop ends where less than a
-- frame is left. Assumes nothing.
use Rattle.std.proofs.Common.{rules, arith}
use Rattle.passes.specs.Run.{turn}
use Rattle.passes.specs.declared.Term.TheVariants.{MinusThree}
use Rattle.pass_turns.proofs.FrameLaws.{frame-fits, turned-fits, done-start, done_end}
use Rattle.cross_runs.proofs.SwapLaws.{swap_start, swap_turn}
use Rattle.cross_runs.proofs.run_swap.Goals as goal

pub loop-buffer-init : goal.loop-buffer-init
loop-buffer-init c =
    let p = c.args.start in
    done-start (turn c.args.direction MinusThree) p c.args.buffer.now
    (swap_start p c.last_of-last_a.ensures c.last_of-last_b.ensures
    (search rules) (search rules) (search rules) (search rules) (search rules) (search rules))
    (search rules) (omega arith)

pub loop-buffer-preserved : goal.loop-buffer-preserved
loop-buffer-preserved c =
    swap_turn c.args.direction c.args.start c.args.buffer.now c.turn-a.result c.turn-b.result
    c.loop-buffer.invariant (omega arith) c.frame_at-frame.ensures
    c.turn-a.ensures c.turn-b.ensures
    c.store_frame.ensures
    (frame-fits _ _ c.frame_at-frame.type_inv) (turned-fits _ _ c.turn-a.type_inv)
    (turned-fits _ _ c.turn-b.type_inv)

pub returns : goal.returns
returns c =
    done_end (turn c.args.direction MinusThree) c.args.start c.args.buffer.now
    c.loop-buffer.invariant (omega arith) c.with_swap.ensures
