-- A list of passes, run in either direction: what it does to passes and buffer is defined in `passes`
-- (P10, P12). Assumes nothing.
use Rattle.std.specs.Prelude.{List, ℕ, ◌-◌, ℤ}
use Rattle.passes.specs.Run.{Chain, decorrelated, analysed}
use Rattle.passes.specs.declared.DecorrPass.{DecorrPass}
use Rattle.passes.specs.declared.Direction.{Direction}
use Rattle.passes.specs.declared.Direction.TheVariants.{Decorrelation, Analysis}

-- a list of passes, run
abbrev pub chained : Direction → List DecorrPass → List ℤ → Chain
chained Decorrelation ps l = decorrelated ps l
chained Analysis ps l = analysed ps l

-- ---- how the code goes about it

-- the pass that turn i of n works on: the first ones first, or the last ones first
abbrev pub place_of : Direction → ℕ → ℕ → ℕ
place_of Decorrelation n i = i
place_of Analysis n i = n - 1 - i
