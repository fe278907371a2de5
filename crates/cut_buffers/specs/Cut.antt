-- Document 02, §10: cutting on eights. The viewer loads a long recording by screens: a buffer goes
-- through decorrelation part by part, each call with the passes as the call before left them. What a
-- call answers is `decorrelation` and `analysis` (crates/decorrelation/specs/Lists.antt): its refusal,
-- 0 for none, the passes after it, and the buffer. Assumes nothing.
use Rattle.std.specs.Prelude.{◌≡◌, Bool, true, not, ◌&&◌, List, [], ◌∷◌, ◌++◌, ℕ, suc, ◌*◌, ◌%◌, ◌≤◌, ◌<◌, ℤ, length, take, drop, replicate}
use Rattle.answers.specs.Limits.{max_elements, max_passes}
use Rattle.passes.specs.Terms.{term_of, is_lag}
use Rattle.passes.specs.Run.{Chain, decorrelated, analysed}
use Rattle.passes.specs.declared.DecorrPass.{DecorrPass}
use Rattle.list_tests.specs.Tests.{all_valid}
use Rattle.decorrelation.specs.Lists.{Answer, refuse_list, decorrelation, analysis}

-- an entry: decorrelation or analysis
abbrev pub Entry : Type 0
Entry = List DecorrPass → List ℤ → Answer

-- ---- where a buffer may be cut

-- "lists with no fixed-lag term"
abbrev pub no_lag : List DecorrPass → Bool
no_lag [] = true
no_lag (p ∷ ps) = not (is_lag (term_of p.term)) && no_lag ps

-- "wherever the cut falls after a multiple of eight frames; for lists with no fixed-lag term, after
-- any whole frame" (Q10.1, Q10.2)
pub data MayCut (passes : List DecorrPass) (frames : ℕ) : Type 0 where
  on-eights : frames % 8 ≡ 0 → MayCut passes frames
  no_lags : no_lag passes ≡ true → MayCut passes frames

-- the two parts of a buffer that is cut after so many frames, of two elements each. The second may
-- have an odd length, and either may be empty: a cut after more frames than there are leaves nothing
-- for it
abbrev pub first_part : ℕ → List ℤ → List ℤ
first_part frames buffer = take (2 * frames) buffer

abbrev pub second_part : ℕ → List ℤ → List ℤ
second_part frames buffer = drop (2 * frames) buffer

-- ---- two parts

-- what the calls of both parts answered
pub record TwoCalls : Type 0 where
  pub first : Answer
  pub second : Answer

-- "decorrelating its two parts in succession": the second call goes on from the passes that the
-- first one left
abbrev pub in_two : Entry → List DecorrPass → ℕ → List ℤ → TwoCalls
in_two entry passes frames buffer =
    let one = entry passes (first_part frames buffer) in
    let two = entry one.passes (second_part frames buffer) in
    record { first = one; second = two }

-- any valid list of at most 16 passes, and "a buffer of at most 262,144 elements"
pub record Callable (passes : List DecorrPass) (buffer : List ℤ) : Type 0 where
  pub valid : all_valid passes ≡ true
  pub at_most_16 : length passes ≤ max_passes
  pub at_most_262144 : length buffer ≤ max_elements

-- all three calls are accepted, and "give the same samples and pass states"
pub record Same (apart : TwoCalls) (whole : Answer) : Type 0 where
  pub first-accepted : apart.first.refusal ≡ 0
  pub second-accepted : apart.second.refusal ≡ 0
  pub whole-accepted : whole.refusal ≡ 0
  pub same_samples : apart.first.buffer ++ apart.second.buffer ≡ whole.buffer
  pub same-passes : apart.second.passes ≡ whole.passes

abbrev pub CutInTwo : Entry → Type 0
CutInTwo entry =
    (passes : List DecorrPass) (buffer : List ℤ) (frames : ℕ) → Callable passes buffer → MayCut passes frames
    → Same (in_two entry passes frames buffer) (entry passes buffer)

-- decorrelation (Q10.1, Q10.2)
abbrev pub DecorrelationCut : Type 0
DecorrelationCut = CutInTwo decorrelation

-- and analysis (Q10.4)
abbrev pub AnalysisCut : Type 0
AnalysisCut = CutInTwo analysis

-- a list that is refused over a buffer of at most 262,144 elements is refused over both parts, with
-- the same number and wherever the cut falls, and nothing changes (Q10.1)
abbrev pub RefusedInTwo : Entry → Type 0
RefusedInTwo entry =
    (passes : List DecorrPass) (buffer : List ℤ) (frames : ℕ) → length buffer ≤ max_elements
    → let number = (entry passes buffer).refusal in 0 < number
    → ((in_two entry passes frames buffer).first ≡ refuse_list passes (first_part frames buffer) number)
    × ((in_two entry passes frames buffer).second ≡ refuse_list passes (second_part frames buffer) number)

abbrev pub DecorrelationRefused : Type 0
DecorrelationRefused = RefusedInTwo decorrelation

-- (Q10.4)
abbrev pub AnalysisRefused : Type 0
AnalysisRefused = RefusedInTwo analysis

-- ---- any number of parts

-- a buffer cut into parts of so many frames each; the last part is what is left, whatever its size
abbrev pub cut_into : List ℕ → List ℤ → List (List ℤ)
cut_into [] buffer = buffer ∷ []
cut_into (frames ∷ more) buffer = first_part frames buffer ∷ cut_into more (second_part frames buffer)

-- a cut after each of these parts
abbrev pub EachMayCut : List DecorrPass → List ℕ → Type 0
EachMayCut passes [] = Unit {0}
EachMayCut passes (frames ∷ more) = MayCut passes frames × EachMayCut passes more

-- what the calls of all parts leave: their refusals, the passes after the last one, and the parts
-- joined again
pub record Calls : Type 0 where
  pub refusals : List ℕ
  pub passes : List DecorrPass
  pub buffer : List ℤ

-- part by part, each call going on from the passes that the one before left (Q10.5)
abbrev pub in_parts : Entry → List DecorrPass → List (List ℤ) → Calls
in_parts entry passes [] = record { refusals = []; passes = passes; buffer = [] }
in_parts entry passes (part ∷ parts) =
    let one = entry passes part in
    let rest = in_parts entry one.passes parts in
    record { refusals = one.refusal ∷ rest.refusals; passes = rest.passes; buffer = one.buffer ++ rest.buffer }

-- so many calls, all accepted, which leave these passes and this buffer
abbrev pub accepted : ℕ → Chain → Calls
accepted calls c = record { refusals = replicate calls 0; passes = c.passes; buffer = c.buffer }

-- every call is accepted, and together they leave what one accepted call leaves
pub record SameInParts (cuts : List ℕ) (parts : Calls) (whole : Answer) : Type 0 where
  pub whole-accepted : whole.refusal ≡ 0
  pub same : parts ≡ accepted (suc (length cuts)) (record { passes = whole.passes; buffer = whole.buffer })

abbrev pub CutInMany : Entry → Type 0
CutInMany entry =
    (passes : List DecorrPass) (buffer : List ℤ) (cuts : List ℕ) → Callable passes buffer → EachMayCut passes cuts
    → SameInParts cuts (in_parts entry passes (cut_into cuts buffer)) (entry passes buffer)

-- decorrelation (Q10.5)
abbrev pub DecorrelationInParts : Type 0
DecorrelationInParts = CutInMany decorrelation

-- and analysis (Q10.4, Q10.5)
abbrev pub AnalysisInParts : Type 0
AnalysisInParts = CutInMany analysis

-- ---- recordings longer than a call

-- each part is one that a call takes
abbrev pub EachShort : List (List ℤ) → Type 0
EachShort [] = Unit {0}
EachShort (part ∷ parts) = (length part ≤ max_elements) × EachShort parts

-- a buffer of any length, in parts that a call takes: all calls are accepted, and leave what the
-- passes leave of the whole (P10, P12), which over 262,144 elements no single call does
abbrev pub LongInMany : Entry → (List DecorrPass → List ℤ → Chain) → Type 0
LongInMany entry run =
    (passes : List DecorrPass) (buffer : List ℤ) (cuts : List ℕ) → all_valid passes ≡ true → length passes ≤ max_passes
    → EachMayCut passes cuts → EachShort (cut_into cuts buffer)
    → in_parts entry passes (cut_into cuts buffer) ≡ accepted (suc (length cuts)) (run passes buffer)

-- decorrelation (Q10.5)
abbrev pub LongDecorrelation : Type 0
LongDecorrelation = LongInMany decorrelation decorrelated

-- and analysis (Q10.4, Q10.5)
abbrev pub LongAnalysis : Type 0
LongAnalysis = LongInMany analysis analysed
