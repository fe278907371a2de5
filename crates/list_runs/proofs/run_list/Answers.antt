use Rattle.list_runs.proofs.Turns.{ran-step}
use Rattle.list_runs.proofs.run_list.Goals as goal

-- the pass at the turn's place is run, and stored
pub loop-i-preserved : goal.loop-i-preserved
loop-i-preserved c =
    let s = c.loop-i in
    let r = c.run_pass in
    rw c.place-j.ensures (ran-step _ _ _ s.i s.passes s.buffer r.result r.new.buffer s.invariant
    c.loop-i-test.true (rw (← c.place-j.ensures) r.ensures))
