-- A list of passes by turns, as a loop over a lent list leaves it: one pass is run and its state
-- stored, forwards in decorrelation and backwards in analysis. Assumes nothing.
use mathlib.Core.Path.{◌≡◌, refl, ap}
use mathlib.Core.List.{List, [], ◌∷◌, ◌++◌}
use Prim.Native.Nat.{ℕ, zero, suc, ◌<◌, ◌≤◌}
use native.Mathlib.Omega.{arith}
use lib.IntN.{ℤ}
use lib.ListN.{length, get_or, set, take, drop}
use Rattle.passes.specs.Run.{Run, passed, Chain, decorrelated, analysed}
use Rattle.passes.specs.declared.DecorrPass.{DecorrPass}
use Rattle.passes.specs.declared.Direction.TheVariants.{Decorrelation, Analysis}

-- passes that are done stand before those that are left
abbrev pub before : List DecorrPass → Chain → Chain
before ps c = record { passes = ps ++ c.passes; buffer = c.buffer }

-- or behind them, where the last is run first
abbrev pub behind : List DecorrPass → Chain → Chain
behind ps c = record { passes = c.passes ++ ps; buffer = c.buffer }

cons_pass : DecorrPass → Chain → Chain
cons_pass p c = record { passes = p ∷ c.passes; buffer = c.buffer }

-- decorrelation: pass j is run, and its state is stored
pub forth : (j : ℕ) (ps : List DecorrPass) (d : DecorrPass) (l : List ℤ) (r : Run) → j < length ps → r ≡ passed Decorrelation (get_or ps j d) l
    → before (take j ps) (decorrelated (drop j ps) l) ≡ before (take (suc j) (set ps j r.pass)) (decorrelated (drop (suc j) (set ps j r.pass)) r.buffer)
unfolding cons_pass
forth zero (p ∷ ps) d l r h e = rw e
forth zero [] d l r h e = absurd (omega arith)
forth (suc j) (p ∷ ps) d l r h e = ap (cons_pass p) (forth j ps d l r (omega arith) e)
forth (suc j) [] d l r h e = absurd (omega arith)

-- no pass is left
pub forth-end : (ps : List DecorrPass) (j : ℕ) (l : List ℤ) → length ps ≤ j → before (take j ps) (decorrelated (drop j ps) l) ≡ record { passes = ps; buffer = l }
unfolding cons_pass
forth-end [] zero l h = refl
forth-end [] (suc j) l h = refl
forth-end (p ∷ ps) zero l h = absurd (omega arith)
forth-end (p ∷ ps) (suc j) l h = ap (cons_pass p) (forth-end ps j l (omega arith))

undo : DecorrPass → Chain → Chain
undo p c = record { passes = (passed Analysis p c.buffer).pass ∷ c.passes; buffer = (passed Analysis p c.buffer).buffer }

-- analysis: pass j is run when those from suc j on are done
pub back : (j : ℕ) (ps : List DecorrPass) (d : DecorrPass) (l : List ℤ) (r : Run) → j < length ps → r ≡ passed Analysis (get_or ps j d) l
    → behind (drop (suc j) ps) (analysed (take (suc j) ps) l) ≡ behind (drop j (set ps j r.pass)) (analysed (take j (set ps j r.pass)) r.buffer)
unfolding undo
back zero (p ∷ ps) d l r h e = rw e
back zero [] d l r h e = absurd (omega arith)
back (suc j) (p ∷ ps) d l r h e = ap (undo p) (back j ps d l r (omega arith) e)
back (suc j) [] d l r h e = absurd (omega arith)
