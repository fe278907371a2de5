-- A buffer cut into parts (statements in specs/Cut.antt), from the laws of a list over two parts. Assumes
-- nothing.
use mathlib.Core.Path.{◌≡◌, refl, sym, ap, ap₂, ◌∙◌}
use mathlib.Core.Bool.{true}
use mathlib.Core.List.{List, [], ◌∷◌, ◌++◌, append-nil}
use Prim.Native.Nat.{ℕ, suc, ◌*◌, ◌≤◌, ◌<◌}
use native.Mathlib.Decide.{dec_lt}
use native.Mathlib.Omega.{arith}
use lib.IntN.{ℤ}
use lib.ListN.{length, take-append-drop, length-take, length-drop, drop_of_length-le}
use lib.Seq.{length-take-le, take_all}
use Rattle.answers.specs.Limits.{max_elements, max_passes}
use Rattle.passes.specs.Run.{Chain, passed, decorrelated, analysed}
use Rattle.passes.specs.declared.DecorrPass.{DecorrPass}
use Rattle.passes.specs.declared.Direction.{Direction}
use Rattle.passes.specs.declared.Direction.TheVariants.{Decorrelation, Analysis}
use Rattle.list_tests.specs.Tests.{all_valid}
use Rattle.list_runs.specs.Chained.{chained}
use Rattle.decorrelation.specs.Lists.{Answer, done, listed}
use Rattle.decorrelation.proofs.Theorems.{listed-accepts}
use Rattle.cut_buffers.specs.Cut.{MayCut, first_part, second_part, in_two, CutInTwo, DecorrelationCut, AnalysisCut}
use Rattle.cut_buffers.specs.Cut.{cut_into, EachMayCut, in_parts, accepted, CutInMany, DecorrelationInParts, AnalysisInParts}
use Rattle.cut_buffers.specs.Cut.{EachShort, LongDecorrelation, LongAnalysis}
use Rattle.cut_buffers.proofs.ListLaws.{unseen, onward, chained-parts}
use Rattle.cut_buffers.proofs.KeptLaws.{chained_terms, same-valid, same_count, each_may_cut}

-- ---- a list over nothing

decorrelated-nothing : (ps : List DecorrPass) → decorrelated ps [] ≡ record { passes = ps; buffer = [] }
unfolding passed
decorrelated-nothing [] = refl
decorrelated-nothing (p ∷ ps) = rw (decorrelated-nothing ps)

analysed-nothing : (ps : List DecorrPass) → analysed ps [] ≡ record { passes = ps; buffer = [] }
unfolding passed
analysed-nothing [] = refl
analysed-nothing (p ∷ ps) = rw (analysed-nothing ps)

pub chained-nothing : (d : Direction) (ps : List DecorrPass) → chained d ps [] ≡ record { passes = ps; buffer = [] }
chained-nothing Decorrelation ps = decorrelated-nothing ps
chained-nothing Analysis ps = analysed-nothing ps

-- ---- a list over a buffer that is cut

module _ (d : Direction) (ps : List DecorrPass) where
  -- what the passes leave of the first part, and from there of the second
  abbrev pub apart : ℕ → List ℤ → Chain
  apart n l = let one = chained d ps (first_part n l) in onward one.buffer (chained d one.passes (second_part n l))

  within : (n : ℕ) (l : List ℤ) → all_valid ps ≡ true → MayCut ps n → 2 * n ≤ length l → chained d ps l ≡ apart n l
  within n l v c h =
      ap (chained d ps) (sym (take-append-drop (2 * n) l))
      ∙ chained-parts d ps n (first_part n l) (second_part n l) (length-take-le (2 * n) l h) (unseen ps n v c)

  beyond : (n : ℕ) (l : List ℤ) → length l ≤ 2 * n → chained d ps l ≡ apart n l
  beyond n l h =
      rw (take_all (2 * n) l h, drop_of_length-le l h, chained-nothing d (chained d ps l).passes, append-nil (chained d ps l).buffer)

  pub chained-cut : (n : ℕ) (l : List ℤ) → all_valid ps ≡ true → MayCut ps n → chained d ps l ≡ apart n l
  chained-cut n l v c = go (dec_lt (length l) (2 * n))
    where
      go : Dec (length l < 2 * n) → chained d ps l ≡ apart n l
      go (yes h) = beyond n l (omega arith)
      go (no h) = within n l v c (omega arith)

-- ---- the calls

-- each part is one that a call takes where the whole is
pub short-parts : (cuts : List ℕ) (l : List ℤ) → length l ≤ max_elements → EachShort (cut_into cuts l)
short-parts [] l h = (h, tt)
short-parts (n ∷ cuts) l h =
    (simp length-take (omega arith), short-parts cuts (second_part n l) (simp length-drop (omega arith)))

module _ (d : Direction) where
  -- all parts
  parts-run : (cuts : List ℕ) (ps : List DecorrPass) (l : List ℤ) → all_valid ps ≡ true → length ps ≤ max_passes
      → EachMayCut ps cuts → EachShort (cut_into cuts l)
      → in_parts (listed d) ps (cut_into cuts l) ≡ accepted (suc (length cuts)) (chained d ps l)
  parts-run [] ps l v few c s =
      rw (listed-accepts d ps l (record { well_made = v; few = few; short = s.0 }), append-nil (chained d ps l).buffer)
  parts-run (n ∷ cuts) ps l v few c s =
      let part = first_part n l in
      let one = chained d ps part in
      let call : listed d ps part ≡ done one = listed-accepts d ps part (record { well_made = v; few = few; short = s.0 }) in
      let terms = chained_terms d ps part in
      let valid : all_valid one.passes ≡ true = same-valid one.passes ps terms ∙ v in
      let count : length one.passes ≤ max_passes = rw (same_count one.passes ps terms) few in
      let rest = parts-run cuts one.passes (second_part n l) valid count (each_may_cut one.passes ps cuts terms c.1) s.1 in
      rw (call, rest, chained-cut d ps n l v c.0)

  -- two parts
  cut-in_two : CutInTwo (listed d)
  cut-in_two ps l n h c =
      let calls = in_two (listed d) ps n l in
      let one = chained d ps (first_part n l) in
      let two = chained d one.passes (second_part n l) in
      let terms = chained_terms d ps (first_part n l) in
      let first_short : length (first_part n l) ≤ max_elements = simp length-take (omega (arith, h.at_most_262144)) in
      let second_short : length (second_part n l) ≤ max_elements = simp length-drop (omega (arith, h.at_most_262144)) in
      let first : calls.first ≡ done one =
      listed-accepts d ps (first_part n l) (record { well_made = h.valid; few = h.at_most_16; short = first_short }) in
      let second : calls.second ≡ done two =
      rw first (listed-accepts d one.passes (second_part n l) (record {
        well_made = same-valid one.passes ps terms ∙ h.valid;
        few = rw (same_count one.passes ps terms) h.at_most_16;
        short = second_short;
      })) in
      let whole : listed d ps l ≡ done (chained d ps l) =
      listed-accepts d ps l (record { well_made = h.valid; few = h.at_most_16; short = h.at_most_262144 }) in
      let cut = chained-cut d ps n l h.valid c in
      record {
        first-accepted = ap (λ (a : Answer). a.refusal) first;
        second-accepted = ap (λ (a : Answer). a.refusal) second;
        whole-accepted = ap (λ (a : Answer). a.refusal) whole;
        same_samples = ap₂ ◌++◌ (ap (λ (a : Answer). a.buffer) first) (ap (λ (a : Answer). a.buffer) second)
            ∙ sym (ap (λ (a : Answer). a.buffer) whole ∙ ap (λ (c : Chain). c.buffer) cut);
        same-passes = ap (λ (a : Answer). a.passes) second
            ∙ sym (ap (λ (a : Answer). a.passes) whole ∙ ap (λ (c : Chain). c.passes) cut);
      }

  -- any number of parts
  cut_in_many : CutInMany (listed d)
  cut_in_many ps l cuts h c =
      let whole : listed d ps l ≡ done (chained d ps l) =
      listed-accepts d ps l (record { well_made = h.valid; few = h.at_most_16; short = h.at_most_262144 }) in
      record {
        whole-accepted = rw whole;
        same = rw whole (parts-run cuts ps l h.valid h.at_most_16 c (short-parts cuts l h.at_most_262144));
      }

-- ---- the theorems

-- Q10.1, Q10.2
pub decorrelation-cut : DecorrelationCut
decorrelation-cut = cut-in_two Decorrelation

-- Q10.4
pub analysis-cut : AnalysisCut
analysis-cut = cut-in_two Analysis

-- Q10.5
pub decorrelation-in_parts : DecorrelationInParts
decorrelation-in_parts = cut_in_many Decorrelation

-- Q10.4, Q10.5
pub analysis-in_parts : AnalysisInParts
analysis-in_parts = cut_in_many Analysis

-- Q10.5: recordings longer than a call
pub long-decorrelation : LongDecorrelation
long-decorrelation ps l cuts v few c s = parts-run Decorrelation cuts ps l v few c s

-- Q10.4, Q10.5
pub long-analysis : LongAnalysis
long-analysis ps l cuts v few c s = parts-run Analysis cuts ps l v few c s
