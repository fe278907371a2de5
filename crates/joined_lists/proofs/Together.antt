-- Two calls and the joined call come to the same (statements in specs/Joined.antt). Assumes nothing.
use mathlib.Core.Path.{◌≡◌, sym, ap, ap₂, ◌∙◌}
use mathlib.Core.List.{List, ◌++◌}
use native.Mathlib.Omega.{arith}
use lib.IntN.{ℤ}
use Rattle.passes.specs.Run.{Chain, decorrelated, analysed}
use Rattle.passes.specs.declared.DecorrPass.{DecorrPass}
use Rattle.passes.specs.declared.Direction.TheVariants.{Decorrelation, Analysis}
use Rattle.passes.proofs.RunInverse.{decorrelated-length, analysed-length}
use Rattle.decorrelation.specs.Lists.{Answer, done, decorrelation, analysis}
use Rattle.decorrelation.proofs.Theorems.{Accepted, listed-accepts, listed-count}
use Rattle.joined_lists.specs.Joined.{TwoCalls, decorrelated_apart, analysed_apart, Joinable, Same, DecorrelationJoined, AnalysisJoined, AsManyPasses}
use Rattle.joined_lists.proofs.FoldLaws.{decorrelated-joined, analysed-joined}
use Rattle.joined_lists.proofs.AcceptLaws.{joined-accepts, parts_accept}

-- ---- equal answers, field by field

pub refusal_of : {a b : Answer} → a ≡ b → a.refusal ≡ b.refusal
refusal_of e = ap (λ (x : Answer). x.refusal) e

pub passes_of_lem : {a b : Answer} → a ≡ b → a.passes ≡ b.passes
passes_of_lem e = ap (λ (x : Answer). x.passes) e

pub buffer_of : {a b : Answer} → a ≡ b → a.buffer ≡ b.buffer
buffer_of e = ap (λ (x : Answer). x.buffer) e

-- ---- two calls

-- two accepted calls, which leave what one run leaves
pub record Runs (apart : TwoCalls) (all : Chain) : Type 0 where
  pub first-accepted : apart.first.refusal ≡ 0
  pub second-accepted : apart.second.refusal ≡ 0
  pub all-run : record { passes = apart.first.passes ++ apart.second.passes; buffer = apart.left } ≡ all

runs_of : (apart : TwoCalls) (c d : Chain) {l : List ℤ} {all : Chain} → apart.first ≡ done c → apart.second ≡ done d → apart.left ≡ l
    → record { passes = c.passes ++ d.passes; buffer = l } ≡ all → Runs apart all
runs_of apart c d e f left run =
    let states : apart.first.passes ++ apart.second.passes ≡ c.passes ++ d.passes = ap₂ ◌++◌ (passes_of_lem e) (passes_of_lem f) in
    record { first-accepted = refusal_of e; second-accepted = refusal_of f; all-run = rw (states, left) run }

-- two lists that are accepted over this buffer: the later call works on what the earlier one left, a
-- buffer of the same length
module _ (ps qs : List DecorrPass) (l : List ℤ) (h : Accepted ps l) (k : Accepted qs l) where
  -- in decorrelation the second list's call is the later one
  pub decorrelation-runs : Runs (decorrelated_apart ps qs l) (decorrelated (ps ++ qs) l)
  decorrelation-runs =
      let one = decorrelated ps l in
      let two = decorrelated qs one.buffer in
      let first : decorrelation ps l ≡ done one = listed-accepts Decorrelation ps l h in
      let later : Accepted qs one.buffer = record { well_made = k.well_made; few = k.few; short = rw (decorrelated-length ps l) k.short } in
      let second : decorrelation qs (decorrelation ps l).buffer ≡ done two = rw first (listed-accepts Decorrelation qs one.buffer later) in
      runs_of (decorrelated_apart ps qs l) one two first second (buffer_of second) (sym (decorrelated-joined ps qs l))

  -- in analysis the first list's is
  pub analysis-runs : Runs (analysed_apart ps qs l) (analysed (ps ++ qs) l)
  analysis-runs =
      let two = analysed qs l in
      let one = analysed ps two.buffer in
      let second : analysis qs l ≡ done two = listed-accepts Analysis qs l k in
      let later : Accepted ps two.buffer = record { well_made = h.well_made; few = h.few; short = rw (analysed-length qs l) h.short } in
      let first : analysis ps (analysis qs l).buffer ≡ done one = rw second (listed-accepts Analysis ps two.buffer later) in
      runs_of (analysed_apart ps qs l) one two first second (buffer_of first) (sym (analysed-joined ps qs l))

-- ---- the theorems

-- what is asked of two lists is what the joined call asks
joinable_accepts : (ps qs : List DecorrPass) (l : List ℤ) → Joinable ps qs l → Accepted (ps ++ qs) l
joinable_accepts ps qs l j =
    let first_alone : Accepted ps l = record { well_made = j.first-valid; few = omega (arith, j.at_most_16); short = j.at_most_262144 } in
    joined-accepts ps qs l first_alone j.second-valid j.at_most_16

-- a joined call that leaves what the same run leaves
same_of : {apart : TwoCalls} {joined : Answer} {all : Chain} → Runs apart all → joined ≡ done all → Same apart joined
same_of r e =
    record {
      first-accepted = r.first-accepted;
      second-accepted = r.second-accepted;
      joined-accepted = refusal_of e;
      same-buffer = buffer_of e ∙ sym (ap (λ (c : Chain). c.buffer) r.all-run);
      same_states = passes_of_lem e ∙ sym (ap (λ (c : Chain). c.passes) r.all-run);
    }

-- Q4.1, Q4.2
pub decorrelation-joined : DecorrelationJoined
decorrelation-joined first second buffer j =
    let all = joinable_accepts first second buffer j in
    let each = parts_accept first second buffer all in
    same_of (decorrelation-runs first second buffer each.0 each.1) (listed-accepts Decorrelation (first ++ second) buffer all)

-- Q4.3
pub analysis-joined : AnalysisJoined
analysis-joined first second buffer j =
    let all = joinable_accepts first second buffer j in
    let each = parts_accept first second buffer all in
    same_of (analysis-runs first second buffer each.0 each.1) (listed-accepts Analysis (first ++ second) buffer all)

-- a call leaves as many passes as it was given
pub as_many-passes : AsManyPasses
as_many-passes ps l = (listed-count Decorrelation ps l, listed-count Analysis ps l)
