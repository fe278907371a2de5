-- Document 02, §4 in numbers: a list for the microphone and one for the stem, over two frames and an
-- odd last element. The program `cases` prints the same numbers. Assumes nothing.
use Rattle.std.specs.Prelude.{◌≡◌, List, [], ◌∷◌, ◌++◌, ℤ, pos, neg_ℤ, replicate}
use Rattle.passes.specs.Making.{padded}
use Rattle.passes.specs.declared.DecorrPass.{DecorrPass}
use Rattle.decorrelation.specs.Lists.{Answer, refuse_list, decorrelation, analysis}
use Rattle.joined_lists.specs.Joined.{OverSixteen, decorrelated_apart}

-- a pass: term, delta, the weights of A and B, and how their histories begin
abbrev pub pass_with : ℤ → ℤ → ℤ → ℤ → List ℤ → List ℤ → DecorrPass
pass_with term delta weightA weightB beginsA beginsB =
    record {
      term = term;
      delta = delta;
      weight_a = weightA;
      weight_b = weightB;
      history_a = padded beginsA;
      history_b = padded beginsB;
    }

-- the microphone's list has one pass
abbrev pub microphone_pass : DecorrPass
microphone_pass = pass_with (pos 17) (pos 2) (pos 1024) (pos 1024) (pos 10 ∷ pos 4 ∷ []) (pos 1 ∷ neg_ℤ (pos 2) ∷ [])

abbrev pub microphone : List DecorrPass
microphone = microphone_pass ∷ []

-- the stem's has two
abbrev pub stem : List DecorrPass
stem =
    pass_with (pos 1) (pos 1) (pos 512) (neg_ℤ (pos 512)) (pos 20 ∷ []) (neg_ℤ (pos 6) ∷ [])
    ∷ pass_with (neg_ℤ (pos 1)) (pos 3) (pos 256) (pos 1023) (pos 40 ∷ []) (pos 8 ∷ [])
    ∷ []

-- the residuals, what the microphone's list makes of them, and the samples that the stem's makes of
-- that
abbrev pub residuals : List ℤ
residuals = pos 1 ∷ neg_ℤ (pos 1) ∷ pos 100 ∷ pos 50 ∷ pos 7 ∷ []

abbrev pub between : List ℤ
between = pos 17 ∷ pos 3 ∷ pos 124 ∷ pos 55 ∷ pos 7 ∷ []

abbrev pub samples : List ℤ
samples = pos 37 ∷ pos 43 ∷ pos 149 ∷ pos 201 ∷ pos 7 ∷ []

-- both lists afterwards
abbrev pub microphone_after : List DecorrPass
microphone_after = pass_with (pos 17) (pos 2) (pos 1028) (pos 1024) (pos 124 ∷ pos 17 ∷ []) (pos 55 ∷ pos 3 ∷ []) ∷ []

abbrev pub stem_after : List DecorrPass
stem_after =
    pass_with (pos 1) (pos 1) (pos 514) (neg_ℤ (pos 512)) (pos 20 ∷ pos 27 ∷ pos 138 ∷ []) (neg_ℤ (pos 6) ∷ pos 6 ∷ pos 52 ∷ [])
    ∷ pass_with (neg_ℤ (pos 1)) (pos 3) (pos 262) (pos 1024) (pos 201 ∷ []) (pos 8 ∷ [])
    ∷ []

-- an accepted call that leaves these passes and this buffer
abbrev pub leaves : List DecorrPass → List ℤ → Answer
leaves passes buffer = record { refusal = 0; passes = passes; buffer = buffer }

-- decorrelation, by two calls and by one, and analysis
pub record ByNumbers : Type 0 where
  pub microphone-first : decorrelation microphone residuals ≡ leaves microphone_after between
  pub then_the_stem : decorrelation stem between ≡ leaves stem_after samples
  pub both-at-once : decorrelation (microphone ++ stem) residuals ≡ leaves (microphone_after ++ stem_after) samples
  pub stem_undone : analysis stem samples ≡ leaves stem_after between
  pub then_the_microphone_undone : analysis microphone between ≡ leaves microphone_after residuals
  pub both_undone_at-once : analysis (microphone ++ stem) samples ≡ leaves (microphone_after ++ stem_after) residuals

-- the order matters: the microphone's list undone before the stem's leaves other residuals than both
-- lists undone by one call (Q4.3)
abbrev pub OrderMatters : Type 0
OrderMatters = (analysis stem (analysis microphone samples).buffer).buffer ≡ (analysis (microphone ++ stem) samples).buffer → ⊥

-- ---- over 16 together

abbrev pub sixteen : List DecorrPass
sixteen = replicate 16 microphone_pass

-- the microphone's list behind 16 passes: two calls leave samples, the joined call the residuals
-- (Q4.1)
pub record Seventeen : Type 0 where
  pub over-sixteen : OverSixteen sixteen microphone residuals
  pub left-by-two : (decorrelated_apart sixteen microphone residuals).left ≡ pos 273 ∷ pos 67 ∷ pos 4869 ∷ pos 1223 ∷ pos 7 ∷ []
  pub left-by-one : decorrelation (sixteen ++ microphone) residuals ≡ refuse_list (sixteen ++ microphone) residuals 9
