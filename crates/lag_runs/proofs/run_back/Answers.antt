-- `run_back` meets its contract: a turn of the loop is a step whose samples are looked back at.
-- Assumes nothing.
use Rattle.std.proofs.Common.{arith, refl}
use Rattle.pass_turns.proofs.FrameLaws.{frame-fits, turned-fits}
use Rattle.lag_runs.proofs.LookLaws.{look-turn, looked_all}
use Rattle.lag_runs.proofs.run_back.Goals as goal

pub loop-buffer-preserved : goal.loop-buffer-preserved
loop-buffer-preserved c =
    look-turn c.args.lag c.requires.some c.requires.most c.args.start c.args.buffer.now
    c.loop-buffer.invariant
    c.turn-a.result c.turn-b.result (omega arith)
    c.frame_at-frame.ensures c.looked_back-source.ensures c.turn-a.ensures c.turn-b.ensures
    c.store_frame.ensures
    (frame-fits _ _ c.looked_back-source.type_inv) (frame-fits _ _ c.frame_at-frame.type_inv)
    (turned-fits _ _ c.turn-a.type_inv) (turned-fits _ _ c.turn-b.type_inv)

pub returns : goal.returns
returns c =
    looked_all c.args.lag c.requires.some c.requires.most c.args.start c.args.buffer.now
    c.loop-buffer.invariant (omega arith) refl refl
