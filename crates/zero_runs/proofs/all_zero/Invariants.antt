-- `zero_runs::all_zero` meets its contract.
-- Assumes nothing.
use Rattle.word_bits.proofs.ZeroLaws.{Block}
use Rattle.zero_runs.proofs.all_zero.Given as goal

abbrev pub invariant-loop-i : goal.invariant-loop-i
invariant-loop-i l = Block l.residuals l.from l.others l.i
