-- Document 01, "Passes": a pass over a whole buffer, and a list of passes, one after the other.
-- Assumes nothing.
use Rattle.std.specs.Prelude.{List, [], ◌∷◌, ℕ, suc, ℤ}
use Rattle.std.specs.Int.{w32}
use Rattle.std.proofs.Common.{SFits}
use Rattle.passes.specs.Terms.{term_of}
use Rattle.passes.specs.Step.{Stepped, step, unstep}
use Rattle.passes.specs.declared.DecorrPass.{DecorrPass}
use Rattle.passes.specs.declared.Direction.{Direction}
use Rattle.passes.specs.declared.Direction.TheVariants.{Decorrelation, Analysis}
use Rattle.passes.specs.declared.Term.{Term}

-- document 01, "The words of demand 3" (M1): a list of 32-bit numbers, as a recording or a residual
-- list is
abbrev pub Fit : List ℤ → Type 0
Fit [] = Unit {0}
Fit (x ∷ l) = SFits w32 x × Fit l

-- what a pass leaves: its own state, and the buffer
pub record Run : Type 0 where
  pub pass : DecorrPass
  pub buffer : List ℤ

-- a pass from history index m on, two elements a frame: "an odd last element keeps its value" (P11)
abbrev pub run : (DecorrPass → ℕ → ℤ → ℤ → Stepped) → DecorrPass → ℕ → List ℤ → Run
run f p m [] = record { pass = p; buffer = [] }
run f p m (x ∷ []) = record { pass = p; buffer = x ∷ [] }
run f p m (x ∷ (y ∷ l)) =
    let o = f p m x y in
    let r = run f o.pass (suc m) l in
    record { pass = r.pass; buffer = o.a ∷ (o.b ∷ r.buffer) }

-- a step in either direction
abbrev pub turn : Direction → Term → DecorrPass → ℕ → ℤ → ℤ → Stepped
turn Decorrelation t p m x y = step t p m x y
turn Analysis t p m x y = unstep t p m x y

-- a pass over a buffer in either direction: "the index restarts at 0 in each call" (P8)
unfoldable pub passed : Direction → DecorrPass → List ℤ → Run
passed direction p l = run (turn direction (term_of p.term)) p 0 l

-- what a list of passes leaves
pub record Chain : Type 0 where
  pub passes : List DecorrPass
  pub buffer : List ℤ

-- "Passes run in list order over the whole buffer" (P10)
abbrev pub decorrelated : List DecorrPass → List ℤ → Chain
decorrelated [] l = record { passes = []; buffer = l }
decorrelated (p ∷ ps) l =
    let r = passed Decorrelation p l in
    let c = decorrelated ps r.buffer in
    record { passes = r.pass ∷ c.passes; buffer = c.buffer }

-- analysis undoes them from the last to the first (P12)
abbrev pub analysed : List DecorrPass → List ℤ → Chain
analysed [] l = record { passes = []; buffer = l }
analysed (p ∷ ps) l =
    let c = analysed ps l in
    let r = passed Analysis p c.buffer in
    record { passes = r.pass ∷ c.passes; buffer = r.buffer }
