-- `reading_turns::put_zeros` meets its contract: the zeros end where the run does, or the list.
-- Assumes nothing.
use native.Mathlib.Omega.{arith}
use Rattle.reading_turns.proofs.ZeroLaws.{cleared}
use Rattle.reading_turns.proofs.put_zeros.Goals as goal

pub returns : goal.returns
returns c = record {
  list-is = cleared _ _ _ _ (omega arith) (omega arith) (c.fill.ensures.after (λ y e. e));
  some = omega arith;
  within = omega arith;
  most = omega arith;
  all = λ h. omega arith;
}
