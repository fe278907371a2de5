-- `wave_data::lay_frames` meets its contract. The loop's invariant: the first i frames are laid.
-- Assumes nothing.
use Rattle.wave_data.proofs.LayLaws.{Laid}
use Rattle.wave_data.proofs.lay_frames.Given as goal

abbrev pub invariant-loop-i : goal.invariant-loop-i
invariant-loop-i l = Laid l.samples l.initial.out l.out l.i
