-- What holds of the two entries together. A recording, or a residual list, is a list of 32-bit
-- numbers (`Fit`); passes are well-made when every term is valid, whatever their weights, deltas
-- and histories hold. Assumes nothing.
use mathlib.Core.Path.{◌≡◌, refl, sym, ap, ◌∙◌}
use mathlib.Core.Bool.{Bool, true, false, cond}
use mathlib.Core.List.{List, [], ◌∷◌, ◌++◌}
use Prim.Native.Nat.{ℕ, zero, suc, ◌≤◌}
use native.Mathlib.Omega.{arith}
use borrow.Author.Tests.{le-ltb, ltb-false}
use lib.Dec.{ltb}
use lib.IntN.{ℤ}
use lib.ListN.{length, take, drop, take-append-drop}
use lib.Seq.{length-take-le, take-length}
use Rattle.answers.specs.Guard.{unless_refused}
use Rattle.answers.specs.Limits.{max_elements, max_passes}
use Rattle.passes.specs.Run.{Fit, passed, Chain, decorrelated, analysed}
use Rattle.passes.specs.declared.DecorrPass.{DecorrPass}
use Rattle.passes.proofs.RunInverse.{analysed-fit, analysed-length, decorrelated-length, decorrelated-analysed, analysed-decorrelated}
use Rattle.passes.proofs.Unique.{residuals_unique}
use Rattle.passes.proofs.Bounds.{AllBounded, decorrelated_bounded, analysed_bounded}
use Rattle.passes.specs.declared.Direction.{Direction}
use Rattle.passes.specs.declared.Direction.TheVariants.{Decorrelation, Analysis}
use Rattle.list_tests.specs.Tests.{all_valid, list_number}
use Rattle.list_runs.specs.Chained.{chained}
use Rattle.decorrelation.specs.Lists.{number_by, Answer, done, refuse_list}
use Rattle.decorrelation.specs.Lists.{listed, followed, array_answer, decorrelation, analysis}
use Rattle.decorrelation.proofs.Answers.{number_by_lem, refusal-told}

-- what both entries accept: at most 16 well-made passes, and at most 262,144 elements
pub record Accepted (ps : List DecorrPass) (l : List ℤ) : Type 0 where
  pub well_made : all_valid ps ≡ true
  pub few : length ps ≤ max_passes
  pub short : length l ≤ max_elements

-- what is accepted is run
pub listed-accepts : (dir : Direction) (ps : List DecorrPass) (l : List ℤ) → Accepted ps l → listed dir ps l ≡ done (chained dir ps l)
unfolding listed list_number
listed-accepts dir ps l h =
    rw (number_by_lem dir (all_valid ps) (length ps) (length l), le-ltb max_elements (length l) h.short, le-ltb max_passes (length ps) h.few, h.well_made)

module _ (ps : List DecorrPass) (l : List ℤ) (h : Accepted ps l) (fit : Fit l) where
  after-analysis : Accepted ps (analysed ps l).buffer
  after-analysis = record { well_made = h.well_made; few = h.few; short = rw (analysed-length ps l) h.short }

  after-decorrelation : Accepted ps (decorrelated ps l).buffer
  after-decorrelation = record { well_made = h.well_made; few = h.few; short = rw (decorrelated-length ps l) h.short }

  -- analysis, then decorrelation, returns the recording, and leaves the passes that analysis left
  pub decorrelation-analysis : decorrelation ps (analysis ps l).buffer ≡ record { refusal = 0; passes = (analysis ps l).passes; buffer = l }
  decorrelation-analysis =
      rw (listed-accepts Analysis ps l h, listed-accepts Decorrelation ps (analysed ps l).buffer after-analysis) (ap done (decorrelated-analysed ps l fit))

  -- decorrelation, then analysis, returns the residuals, and leaves the passes that decorrelation
  -- left
  pub analysis-decorrelation : analysis ps (decorrelation ps l).buffer ≡ record { refusal = 0; passes = (decorrelation ps l).passes; buffer = l }
  analysis-decorrelation =
      rw (listed-accepts Decorrelation ps l h, listed-accepts Analysis ps (decorrelated ps l).buffer after-decorrelation) (ap done (analysed-decorrelated ps l fit))

unique_by : (n : ℕ) (ps : List DecorrPass) (r s : List ℤ) → Fit r → Fit s
    → (unless_refused n (refuse_list ps r) (done (decorrelated ps r))).buffer ≡ (unless_refused n (refuse_list ps s) (done (decorrelated ps s))).buffer → r ≡ s
unique_by zero ps r s hr hs e = residuals_unique ps r s hr hs e
unique_by (suc n) ps r s hr hs e = e

-- two residual lists of one length that decorrelate to one recording are equal, for any list of
-- passes
pub decorrelation_unique : (ps : List DecorrPass) (r s : List ℤ) → length r ≡ length s → Fit r → Fit s → (decorrelation ps r).buffer ≡ (decorrelation ps s).buffer → r ≡ s
unfolding listed
decorrelation_unique ps r s same hr hs e = unique_by (list_number (all_valid ps) (length ps) (length s)) ps r s hr hs (rw same at e)

-- the residuals of a recording: a list of its length that decorrelates to it, and every such list
-- is this one
pub record OnlyResiduals (ps : List DecorrPass) (x r : List ℤ) : Type 0 where
  pub fit : Fit r
  pub same : length r ≡ length x
  pub decorrelates : (decorrelation ps r).buffer ≡ x
  pub only : (s : List ℤ) → Fit s → length s ≡ length x → (decorrelation ps s).buffer ≡ x → s ≡ r

-- so exactly one exists, and analysis finds it
pub analysis_finds : (ps : List DecorrPass) (x : List ℤ) → Accepted ps x → Fit x → OnlyResiduals ps x (analysis ps x).buffer
analysis_finds ps x h fit =
    let found : analysis ps x ≡ done (analysed ps x) = listed-accepts Analysis ps x h in
    let back : (decorrelation ps (analysis ps x).buffer).buffer ≡ x = ap (λ (o : Answer). o.buffer) (decorrelation-analysis ps x h fit) in
    let len : length (analysis ps x).buffer ≡ length x = rw found (analysed-length ps x) in
    let good : Fit (analysis ps x).buffer = rw found (analysed-fit ps x fit) in
    record {
      fit = good;
      same = len;
      decorrelates = back;
      only = λ s hs e d. decorrelation_unique ps s (analysis ps x).buffer (e ∙ sym len) hs good (d ∙ sym back);
    }

bounded_by : (n : ℕ) (c : Chain) (ps : List DecorrPass) (l : List ℤ) → AllBounded ps → AllBounded c.passes → AllBounded (unless_refused n (refuse_list ps l) (done c)).passes
bounded_by zero c ps l h k = k
bounded_by (suc n) c ps l h k = h

-- cross weights within 1024 of 0, with delta 0 to 7, stay there, through decorrelation and through
-- analysis
pub decorrelation_bounded : (ps : List DecorrPass) (l : List ℤ) → AllBounded ps → AllBounded (decorrelation ps l).passes
unfolding listed
decorrelation_bounded ps l h = bounded_by (list_number (all_valid ps) (length ps) (length l)) (decorrelated ps l) ps l h (decorrelated_bounded ps l h)

-- the same through analysis
pub analysis_bounded : (ps : List DecorrPass) (l : List ℤ) → AllBounded ps → AllBounded (analysis ps l).passes
unfolding listed
analysis_bounded ps l h = bounded_by (list_number (all_valid ps) (length ps) (length l)) (analysed ps l) ps l h (analysed_bounded ps l h)

-- ---- how many passes are left

decorrelated-count : (ps : List DecorrPass) (l : List ℤ) → length (decorrelated ps l).passes ≡ length ps
decorrelated-count [] l = refl
decorrelated-count (p ∷ ps) l = ap suc (decorrelated-count ps (passed Decorrelation p l).buffer)

analysed-count : (ps : List DecorrPass) (l : List ℤ) → length (analysed ps l).passes ≡ length ps
analysed-count [] l = refl
analysed-count (p ∷ ps) l = ap suc (analysed-count ps l)

chained-count : (dir : Direction) (ps : List DecorrPass) (l : List ℤ) → length (chained dir ps l).passes ≡ length ps
chained-count Decorrelation ps l = decorrelated-count ps l
chained-count Analysis ps l = analysed-count ps l

count_by : (k : ℕ) (c : Chain) (ps : List DecorrPass) (l : List ℤ) → length c.passes ≡ length ps → length (unless_refused k (refuse_list ps l) (done c)).passes ≡ length ps
count_by zero c ps l h = h
count_by (suc k) c ps l h = refl

-- a call leaves as many passes as it was given
pub listed-count : (dir : Direction) (ps : List DecorrPass) (l : List ℤ) → length (listed dir ps l).passes ≡ length ps
unfolding listed
listed-count dir ps l = count_by (number_by dir (all_valid ps) (length ps) (length l)) (chained dir ps l) ps l (chained-count dir ps l)

-- ---- the array form
-- the passes of an answer, followed by those that are not run
abbrev pub extended : List DecorrPass → Answer → Answer
extended rest a = record { refusal = a.refusal; passes = a.passes ++ rest; buffer = a.buffer }

extended-by : (k : ℕ) (c : Chain) (ps rest : List DecorrPass) (l : List ℤ)
    → unless_refused k (refuse_list (ps ++ rest) l) (done (followed rest c)) ≡ extended rest (unless_refused k (refuse_list ps l) (done c))
extended-by zero c ps rest l = refl
extended-by (suc k) c ps rest l = refl

-- the first n passes of an array are answered as a list of n is, and those behind keep their values
pub array_as_list : (dir : Direction) (ps : List DecorrPass) (n : ℕ) (l : List ℤ) → n ≤ length ps → array_answer dir ps n l ≡ extended (drop n ps) (listed dir (take n ps) l)
unfolding array_answer listed
array_as_list dir ps n l k =
    let whole : take n ps ++ drop n ps ≡ ps = take-append-drop n ps in
    let number = number_by dir (all_valid (take n ps)) n (length l) in
    rw (length-take-le n ps k)
    (ap (λ qs. unless_refused number (refuse_list qs l) (done (followed (drop n ps) (chained dir (take n ps) l)))) (sym whole)
    ∙ extended-by number (chained dir (take n ps) l) (take n ps) (drop n ps) l)

-- what the array form accepts: at most 16 passes, at most 262,144 elements, and valid terms
pub record ArrayAccepted (ps : List DecorrPass) (n : ℕ) (l : List ℤ) : Type 0 where
  pub few : n ≤ max_passes
  pub size : length l ≤ max_elements
  pub valid : all_valid (take n ps) ≡ true

-- then the first n passes are run
pub array_runs : (dir : Direction) (ps : List DecorrPass) (n : ℕ) (l : List ℤ) → ArrayAccepted ps n l → array_answer dir ps n l ≡ done (followed (drop n ps) (chained dir (take n ps) l))
unfolding array_answer list_number
array_runs dir ps n l h = rw (number_by_lem dir (all_valid (take n ps)) n (length l), le-ltb max_elements (length l) h.size, le-ltb max_passes n h.few, h.valid)

no_refusal : (s t v : Bool) → ◌≡◌ {A = ℕ} (cond s 5 (cond t 9 (cond v 0 7))) 0 → (s ≡ false) × (t ≡ false) × (v ≡ true)
no_refusal true t v e = absurd (omega arith)
no_refusal false true v e = absurd (omega arith)
no_refusal false false true e = (refl, refl, refl)
no_refusal false false false e = absurd (omega arith)

-- so it is where no refusal applies
pub array_accepts : (dir : Direction) (ps : List DecorrPass) (n : ℕ) (l : List ℤ) → number_by dir (all_valid (take n ps)) n (length l) ≡ 0 → ArrayAccepted ps n l
unfolding list_number
array_accepts dir ps n l e =
    let v = all_valid (take n ps) in
    let t = no_refusal (ltb max_elements (length l)) (ltb max_passes n) v (sym (number_by_lem dir v n (length l)) ∙ e) in
    record { few = ltb-false max_passes n t.1; size = ltb-false max_elements (length l) t.0; valid = t.2 }

-- a call that answers 0 was given what is accepted
pub zero-accepts : (dir : Direction) (ps : List DecorrPass) (l : List ℤ) → (listed dir ps l).refusal ≡ 0 → Accepted ps l
unfolding listed
zero-accepts dir ps l e =
    let number : number_by dir (all_valid ps) (length ps) (length l) ≡ 0 = sym (refusal-told _ (chained dir ps l) ps l) ∙ e in
    let whole : take (length ps) ps ≡ ps = take-length ps in
    let a : ArrayAccepted ps (length ps) l = array_accepts dir ps (length ps) l (rw whole number) in
    record { well_made = rw (← whole) a.valid; few = a.few; short = a.size }
