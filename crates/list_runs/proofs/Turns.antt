-- What holds of a list of passes and of the buffer at a turn of the loop over them, as facts on lists
-- alone, and that one turn keeps it. Assumes nothing.
use mathlib.Core.Path.{◌≡◌, sym, ◌∙◌, subst}
use mathlib.Core.List.{List, []}
use Prim.Native.Nat.{ℕ, suc, ◌+◌, ◌-◌, ◌<◌, ◌≤◌}
use native.Mathlib.Numerals.{add-one}
use native.Mathlib.Omega.{arith}
use lib.IntN.{ℤ, pos}
use lib.ListN.{length, take, drop, set, get_or, length-set}
use Rattle.passes.specs.Run.{Run, passed, Chain, decorrelated, analysed}
use Rattle.passes.specs.declared.DecorrPass.{DecorrPass}
use Rattle.passes.specs.declared.Direction.{Direction}
use Rattle.passes.specs.declared.Direction.TheVariants.{Decorrelation, Analysis}
use Rattle.passes.proofs.ListLaws.{before, behind, forth, back as back-law}
use Rattle.list_runs.specs.Chained.{chained, place_of}

-- what stands for a pass where there is none
abbrev pub none : DecorrPass
none = record { term = pos 0; delta = pos 0; weight_a = pos 0; weight_b = pos 0; history_a = []; history_b = [] }

-- what i turns have done, joined to what is left, is the whole
abbrev pending : Direction → ℕ → List DecorrPass → List ℤ → Chain
pending Analysis i ps cs = behind (drop (length ps - i) ps) (analysed (take (length ps - i) ps) cs)
pending Decorrelation i ps cs = before (take i ps) (decorrelated (drop i ps) cs)

pub record Ran (dir : Direction) (P : List DecorrPass) (B : List ℤ) (i : ℕ) (ps : List DecorrPass) (cs : List ℤ) : Type 0 where
  pub count : i ≤ length P
  pub long : length ps ≡ length P
  pub whole : pending dir i ps cs ≡ chained dir P B

module _ (dir : Direction) (P : List DecorrPass) (B : List ℤ) where
  -- a turn runs the pass at its place, and stores it
  turned : (b : Direction) (i : ℕ) (ps : List DecorrPass) (cs : List ℤ) (r : Run) → i < length ps → r ≡ passed b (get_or ps (place_of b (length ps) i) none) cs
      → pending b (i + 1) (set ps (place_of b (length ps) i) r.pass) r.buffer ≡ pending b i ps cs
  turned Analysis i ps cs r h e =
      let j : length ps - i ≡ suc (length ps - 1 - i) = omega arith in
      let k : length (set ps (length ps - 1 - i) r.pass) - (i + 1) ≡ length ps - 1 - i = simp length-set (omega arith) in
      rw (j, k) (sym (back-law (length ps - 1 - i) ps none cs r (omega arith) e))
  turned Decorrelation i ps cs r h e = rw (add-one i) (sym (forth i ps none cs r h e))

  -- one more pass has run
  pub ran-step : (i : ℕ) (ps : List DecorrPass) (cs : List ℤ) (r : DecorrPass) (zs : List ℤ) → Ran dir P B i ps cs → i < length P
      → record { pass = r; buffer = zs } ≡ passed dir (get_or ps (place_of dir (length P) i) none) cs → Ran dir P B (i + 1) (set ps (place_of dir (length P) i) r) zs
  ran-step i ps cs r zs f l e =
      record {
        count = omega arith;
        long = length-set ps _ r ∙ f.long;
        whole = subst (λ n. pending dir (i + 1) (set ps (place_of dir n i) r) zs ≡ chained dir P B) f.long
            (turned dir i ps cs (record { pass = r; buffer = zs }) (omega (arith, f.long)) (rw f.long e) ∙ f.whole);
      }
