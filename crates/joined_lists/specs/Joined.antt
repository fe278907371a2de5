-- Document 02, §4: pass lists joined. Settings hold a short list of passes for the microphone and
-- another for the stem; two calls, one for each list, and one call with the second list appended to
-- the first come to the same. What a call answers is `decorrelation` and `analysis`
-- (crates/decorrelation/specs/Lists.antt): its refusal, 0 for none, its passes with their states
-- after it, and the buffer. Assumes nothing.
use Rattle.std.specs.Prelude.{◌≡◌, true, List, ◌++◌, ℕ, ◌+◌, ◌≤◌, ◌<◌, ℤ, length}
use Rattle.answers.specs.Limits.{max_elements, max_passes}
use Rattle.passes.specs.Run.{Chain, decorrelated, analysed}
use Rattle.passes.specs.declared.DecorrPass.{DecorrPass}
use Rattle.list_tests.specs.Tests.{all_valid}
use Rattle.decorrelation.specs.Lists.{Answer, refuse_list, decorrelation, analysis}

-- ---- two calls

-- what the first list's call and the second list's call answered, and the buffer that both left
pub record TwoCalls : Type 0 where
  pub first : Answer
  pub second : Answer
  pub left : List ℤ

-- "decorrelating by one list and then by a second"
abbrev pub decorrelated_apart : List DecorrPass → List DecorrPass → List ℤ → TwoCalls
decorrelated_apart first second buffer =
    let one = decorrelation first buffer in
    let two = decorrelation second one.buffer in
    record { first = one; second = two; left = two.buffer }

-- "analysis, the second list undone before the first"
abbrev pub analysed_apart : List DecorrPass → List DecorrPass → List ℤ → TwoCalls
analysed_apart first second buffer =
    let two = analysis second buffer in
    let one = analysis first two.buffer in
    record { first = one; second = two; left = one.buffer }

-- ---- two calls and the joined call

-- "any valid passes numbering at most 16 together", and any buffer that a call takes, of an odd
-- number of elements too
pub record Joinable (first second : List DecorrPass) (buffer : List ℤ) : Type 0 where
  pub first-valid : all_valid first ≡ true
  pub second-valid : all_valid second ≡ true
  pub at_most_16 : length first + length second ≤ max_passes
  pub at_most_262144 : length buffer ≤ max_elements

-- all three calls are accepted, and they are equal "in samples and in all pass states": the states
-- of the first list's passes, then those of the second's
pub record Same (apart : TwoCalls) (joined : Answer) : Type 0 where
  pub first-accepted : apart.first.refusal ≡ 0
  pub second-accepted : apart.second.refusal ≡ 0
  pub joined-accepted : joined.refusal ≡ 0
  pub same-buffer : joined.buffer ≡ apart.left
  pub same_states : joined.passes ≡ apart.first.passes ++ apart.second.passes

-- "equals one call with the second appended to the first" (Q4.1, Q4.2)
abbrev pub DecorrelationJoined : Type 0
DecorrelationJoined =
    (first second : List DecorrPass) (buffer : List ℤ) → Joinable first second buffer
    → Same (decorrelated_apart first second buffer) (decorrelation (first ++ second) buffer)

-- "The same is wanted of analysis" (Q4.3)
abbrev pub AnalysisJoined : Type 0
AnalysisJoined =
    (first second : List DecorrPass) (buffer : List ℤ) → Joinable first second buffer
    → Same (analysed_apart first second buffer) (analysis (first ++ second) buffer)

-- a call leaves as many passes as it was given, so a state in the joined list is that of the pass at
-- its place (Q4.2, Q4.3)
abbrev pub AsManyPasses : Type 0
AsManyPasses =
    (passes : List DecorrPass) (buffer : List ℤ)
    → (length (decorrelation passes buffer).passes ≡ length passes) × (length (analysis passes buffer).passes ≡ length passes)

-- ---- over 16 together

-- two lists that a call takes each, with over 16 passes together
pub record OverSixteen (first second : List DecorrPass) (buffer : List ℤ) : Type 0 where
  pub first-valid : all_valid first ≡ true
  pub second-valid : all_valid second ≡ true
  pub first-at_most_16 : length first ≤ max_passes
  pub second-at_most_16 : length second ≤ max_passes
  pub over_16 : max_passes < length first + length second
  pub at_most_262144 : length buffer ≤ max_elements

-- the joined call refuses both lists with 9 and changes nothing; the two calls are accepted, and
-- leave what all the passes leave one after the other (P10, P12), which no single call does
pub record OnlyApart (both : List DecorrPass) (buffer : List ℤ) (apart : TwoCalls) (joined : Answer) (all : Chain) : Type 0 where
  pub first-accepted : apart.first.refusal ≡ 0
  pub second-accepted : apart.second.refusal ≡ 0
  pub joined-refused : joined ≡ refuse_list both buffer 9
  pub all-run : record { passes = apart.first.passes ++ apart.second.passes; buffer = apart.left } ≡ all

-- in decorrelation (Q4.1)
abbrev pub DecorrelationApart : Type 0
DecorrelationApart =
    (first second : List DecorrPass) (buffer : List ℤ) → OverSixteen first second buffer
    → OnlyApart (first ++ second) buffer (decorrelated_apart first second buffer) (decorrelation (first ++ second) buffer) (decorrelated (first ++ second) buffer)

-- and in analysis (Q4.3)
abbrev pub AnalysisApart : Type 0
AnalysisApart =
    (first second : List DecorrPass) (buffer : List ℤ) → OverSixteen first second buffer
    → OnlyApart (first ++ second) buffer (analysed_apart first second buffer) (analysis (first ++ second) buffer) (analysed (first ++ second) buffer)

-- ---- any passes, any buffer

-- the joined call is accepted exactly where both calls are and there are at most 16 passes together
pub record Exactly (apart : TwoCalls) (together : ℕ) (joined : Answer) : Type 0 where
  pub both-accepted : joined.refusal ≡ 0 → (apart.first.refusal ≡ 0) × (apart.second.refusal ≡ 0) × (together ≤ max_passes)
  pub joined-accepted : apart.first.refusal ≡ 0 → apart.second.refusal ≡ 0 → together ≤ max_passes → joined.refusal ≡ 0

-- in decorrelation (Q4.1)
abbrev pub DecorrelationAccepted : Type 0
DecorrelationAccepted =
    (first second : List DecorrPass) (buffer : List ℤ)
    → Exactly (decorrelated_apart first second buffer) (length first + length second) (decorrelation (first ++ second) buffer)

-- and in analysis (Q4.3)
abbrev pub AnalysisAccepted : Type 0
AnalysisAccepted =
    (first second : List DecorrPass) (buffer : List ℤ)
    → Exactly (analysed_apart first second buffer) (length first + length second) (analysis (first ++ second) buffer)
