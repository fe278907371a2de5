-- What a run keeps of its list: the terms, and with them whether all are valid and whether one is a lag.
-- Assumes nothing.
use mathlib.Core.Path.{◌≡◌, refl}
use mathlib.Core.List.{List, [], ◌∷◌}
use Prim.Native.Nat.{ℕ}
use lib.IntN.{ℤ}
use lib.ListN.{length}
use Rattle.passes.specs.Run.{passed, decorrelated, analysed}
use Rattle.passes.specs.declared.DecorrPass.{DecorrPass}
use Rattle.passes.specs.declared.Direction.{Direction}
use Rattle.passes.specs.declared.Direction.TheVariants.{Decorrelation, Analysis}
use Rattle.passes.proofs.Bounds.{passed-term}
use Rattle.list_tests.specs.Tests.{all_valid}
use Rattle.list_runs.specs.Chained.{chained}
use Rattle.cut_buffers.specs.Cut.{no_lag, MayCut, EachMayCut}

-- as many passes, of the same terms
abbrev pub SameTerms : List DecorrPass → List DecorrPass → Type 0
SameTerms [] [] = Unit {0}
SameTerms [] (q ∷ qs) = ⊥
SameTerms (p ∷ ps) [] = ⊥
SameTerms (p ∷ ps) (q ∷ qs) = (p.term ≡ q.term) × SameTerms ps qs

-- ---- through a run

decorrelated_terms : (ps : List DecorrPass) (l : List ℤ) → SameTerms (decorrelated ps l).passes ps
decorrelated_terms [] l = tt
decorrelated_terms (p ∷ ps) l = (passed-term Decorrelation p l, decorrelated_terms ps (passed Decorrelation p l).buffer)

analysed_terms : (ps : List DecorrPass) (l : List ℤ) → SameTerms (analysed ps l).passes ps
analysed_terms [] l = tt
analysed_terms (p ∷ ps) l = (passed-term Analysis p (analysed ps l).buffer, analysed_terms ps l)

pub chained_terms : (d : Direction) (ps : List DecorrPass) (l : List ℤ) → SameTerms (chained d ps l).passes ps
chained_terms Decorrelation ps l = decorrelated_terms ps l
chained_terms Analysis ps l = analysed_terms ps l

-- ---- what follows from the terms

pub same-valid : (ps qs : List DecorrPass) → SameTerms ps qs → all_valid ps ≡ all_valid qs
same-valid [] [] s = refl
same-valid [] (q ∷ qs) s = absurd s
same-valid (p ∷ ps) [] s = absurd s
same-valid (p ∷ ps) (q ∷ qs) s = rw (s.0, same-valid ps qs s.1)

same_lags : (ps qs : List DecorrPass) → SameTerms ps qs → no_lag ps ≡ no_lag qs
same_lags [] [] s = refl
same_lags [] (q ∷ qs) s = absurd s
same_lags (p ∷ ps) [] s = absurd s
same_lags (p ∷ ps) (q ∷ qs) s = rw (s.0, same_lags ps qs s.1)

pub same_count : (ps qs : List DecorrPass) → SameTerms ps qs → length ps ≡ length qs
same_count [] [] s = refl
same_count [] (q ∷ qs) s = absurd s
same_count (p ∷ ps) [] s = absurd s
same_count (p ∷ ps) (q ∷ qs) s = rw (same_count ps qs s.1)

-- cuts that one list allows, the other does
may_cut : (ps qs : List DecorrPass) (n : ℕ) → SameTerms ps qs → MayCut qs n → MayCut ps n
may_cut ps qs n s (MayCut.on-eights e) = MayCut.on-eights e
may_cut ps qs n s (MayCut.no_lags e) = MayCut.no_lags (rw (same_lags ps qs s) e)

pub each_may_cut : (ps qs : List DecorrPass) (cuts : List ℕ) → SameTerms ps qs → EachMayCut qs cuts → EachMayCut ps cuts
each_may_cut ps qs [] s c = tt
each_may_cut ps qs (n ∷ cuts) s c = (may_cut ps qs n s c.0, each_may_cut ps qs cuts s c.1)
