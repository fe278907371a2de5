-- A list of passes over a buffer that is cut: each pass sees its own two parts. Assumes nothing.
use mathlib.Core.Path.{◌≡◌, refl, ◌∙◌}
use mathlib.Core.Bool.{true, not}
use mathlib.Core.List.{List, [], ◌∷◌, ◌++◌}
use Prim.Native.Nat.{ℕ, ◌*◌}
use borrow.Author.Tests.{not-true}
use lib.IntN.{ℤ}
use lib.ListN.{length}
use Rattle.answers.proofs.TestLaws.{both}
use Rattle.passes.specs.Terms.{term_of, is_lag}
use Rattle.passes.specs.Run.{passed, Chain, decorrelated, analysed}
use Rattle.passes.specs.declared.DecorrPass.{DecorrPass}
use Rattle.passes.specs.declared.Direction.{Direction}
use Rattle.passes.specs.declared.Direction.TheVariants.{Decorrelation, Analysis}
use Rattle.passes.proofs.RunInverse.{passed_length, analysed-length}
use Rattle.list_tests.specs.Tests.{valid_pass, all_valid}
use Rattle.list_runs.specs.Chained.{chained}
use Rattle.cut_buffers.specs.Cut.{no_lag, MayCut}
use Rattle.cut_buffers.proofs.RunLaws.{Unseen, passed-parts}

-- ---- which cuts no pass sees

-- no pass of the list
abbrev pub AllUnseen : List DecorrPass → ℕ → Type 0
AllUnseen [] n = Unit {0}
AllUnseen (p ∷ ps) n = Unseen p n × AllUnseen ps n

-- a cut where it may fall
pub unseen : (ps : List DecorrPass) (n : ℕ) → all_valid ps ≡ true → MayCut ps n → AllUnseen ps n
unseen [] n v c = tt
unseen (p ∷ ps) n v (MayCut.on-eights e) =
    let w = both (valid_pass p) (all_valid ps) v in
    (Unseen.ring e, unseen ps n w.1 (MayCut.on-eights e))
unseen (p ∷ ps) n v (MayCut.no_lags e) =
    let w = both (valid_pass p) (all_valid ps) v in
    let f = both (not (is_lag (term_of p.term))) (no_lag ps) e in
    (Unseen.no_index w.0 (not-true _ f.0), unseen ps n w.1 (MayCut.no_lags f.1))

-- ---- a list over two parts

-- what is done of the first part stands before what the passes, as that left them, make of the second
abbrev pub onward : List ℤ → Chain → Chain
onward l c = record { passes = c.passes; buffer = l ++ c.buffer }

decorrelated-parts : (ps : List DecorrPass) (n : ℕ) (l r : List ℤ) → length l ≡ 2 * n → AllUnseen ps n
    → let one = decorrelated ps l in decorrelated ps (l ++ r) ≡ onward one.buffer (decorrelated one.passes r)
decorrelated-parts [] n l r e u = refl
decorrelated-parts (p ∷ ps) n l r e u =
    let first = passed Decorrelation p l in
    let second = passed Decorrelation first.pass r in
    rw (passed-parts Decorrelation p n l r e u.0)
    (rw (decorrelated-parts ps n first.buffer second.buffer (passed_length Decorrelation p l ∙ e) u.1))

analysed_parts : (ps : List DecorrPass) (n : ℕ) (l r : List ℤ) → length l ≡ 2 * n → AllUnseen ps n
    → let one = analysed ps l in analysed ps (l ++ r) ≡ onward one.buffer (analysed one.passes r)
analysed_parts [] n l r e u = refl
analysed_parts (p ∷ ps) n l r e u =
    let one = analysed ps l in
    rw (analysed_parts ps n l r e u.1)
    (rw (passed-parts Analysis p n one.buffer (analysed one.passes r).buffer (analysed-length ps l ∙ e) u.0))

-- in either direction
pub chained-parts : (d : Direction) (ps : List DecorrPass) (n : ℕ) (l r : List ℤ) → length l ≡ 2 * n → AllUnseen ps n
    → let one = chained d ps l in chained d ps (l ++ r) ≡ onward one.buffer (chained d one.passes r)
chained-parts Decorrelation ps n l r e u = decorrelated-parts ps n l r e u
chained-parts Analysis ps n l r e u = analysed_parts ps n l r e u
