-- A joined list as the runs of its two parts, by the fold over the list: what a pass does is not
-- looked at. Assumes nothing.
use mathlib.Core.Path.{◌≡◌, refl, sym}
use mathlib.Core.Bool.{◌&&◌, and_assoc}
use mathlib.Core.List.{List, [], ◌∷◌, ◌++◌}
use lib.IntN.{ℤ}
use Rattle.passes.specs.Run.{passed, decorrelated, analysed}
use Rattle.passes.specs.declared.DecorrPass.{DecorrPass}
use Rattle.passes.specs.declared.Direction.TheVariants.{Decorrelation}
use Rattle.passes.proofs.ListLaws.{before, behind}
use Rattle.list_tests.specs.Tests.{valid_pass, all_valid}

-- decorrelation: the first list is run, and the second over what it left
pub decorrelated-joined : (ps qs : List DecorrPass) (l : List ℤ)
    → decorrelated (ps ++ qs) l ≡ before (decorrelated ps l).passes (decorrelated qs (decorrelated ps l).buffer)
decorrelated-joined [] qs l = refl
decorrelated-joined (p ∷ ps) qs l = rw (decorrelated-joined ps qs (passed Decorrelation p l).buffer)

-- analysis: the second list is undone, and the first over what that left
pub analysed-joined : (ps qs : List DecorrPass) (l : List ℤ)
    → analysed (ps ++ qs) l ≡ behind (analysed qs l).passes (analysed ps (analysed qs l).buffer)
analysed-joined [] qs l = refl
analysed-joined (p ∷ ps) qs l = rw (analysed-joined ps qs l)

-- the passes of a joined list are valid where those of both lists are
pub valid-joined : (ps qs : List DecorrPass) → all_valid (ps ++ qs) ≡ (all_valid ps && all_valid qs)
valid-joined [] qs = refl
valid-joined (p ∷ ps) qs = rw (valid-joined ps qs) (sym (and_assoc (valid_pass p) (all_valid ps) (all_valid qs)))
