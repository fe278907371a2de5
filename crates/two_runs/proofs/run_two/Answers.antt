-- `run_two` meets its contract: a turn of the loop is a step, and the loop ends where less than a
-- frame is left. Assumes nothing.
use Rattle.std.proofs.Common.{rules, arith}
use Rattle.std.specs.Prelude.{not, eqb}
use Rattle.passes.specs.Run.{turn}
use Rattle.pass_turns.proofs.FrameLaws.{frame-fits, turned-fits, done-start, done_end}
use Rattle.two_runs.specs.Two.{two_term}
use Rattle.two_runs.proofs.TwoLaws.{last_fits, two-start, two-turn}
use Rattle.two_runs.proofs.run_two.Goals as goal

pub loop-buffer-init : goal.loop-buffer-init
loop-buffer-init g c =
    let p = c.args.start in
    let eighteen = not (eqb g.row.EIGHTEEN 0) in
    done-start (turn c.args.direction (two_term eighteen)) p c.args.buffer.now
    (two-start p c.last_two-held_a.ensures c.last_two-held_b.ensures
    (search rules) (search rules) (search rules) (search rules) (last_fits _ _ c.last_two-held_a.type_inv)
    (last_fits _ _ c.last_two-held_b.type_inv))
    (search rules) (omega arith)

pub loop-buffer-preserved : goal.loop-buffer-preserved
loop-buffer-preserved g c =
    let eighteen = not (eqb g.row.EIGHTEEN 0) in
    two-turn c.args.direction eighteen c.args.start c.args.buffer.now c.turn-a.result
    c.turn-b.result
    c.loop-buffer.invariant (omega arith) c.frame_at-frame.ensures c.two_source-source_a.ensures
    c.two_source-source_b.ensures
    c.turn-a.ensures c.turn-b.ensures c.store_frame.ensures
    (search rules) (search rules)
    (frame-fits _ _ c.frame_at-frame.type_inv) (turned-fits _ _ c.turn-a.type_inv)
    (turned-fits _ _ c.turn-b.type_inv)

pub returns : goal.returns
returns g c =
    let eighteen = not (eqb g.row.EIGHTEEN 0) in
    done_end (turn c.args.direction (two_term eighteen)) c.args.start c.args.buffer.now
    c.loop-buffer.invariant (omega arith) c.with_last_two.ensures
