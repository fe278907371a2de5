-- `wrapping::narrow`: the low 32 bits are masked, and read as signed.
-- Assumes nothing.
use mathlib.Core.Path.{refl}
use Rattle.wrapping.specs.Wrap.{wrap32}
use Rattle.wrapping.proofs.WrapLaws.{masked}
use Rattle.wrapping.proofs.ReadBack.{narrowed}
use Rattle.wrapping.proofs.narrow.Goals as goal

pub returns : goal.returns
unfolding wrap32
returns c = narrowed _ _ _ (rw (masked _ c.ranges.x) at c.cast_signed.ensures) refl
