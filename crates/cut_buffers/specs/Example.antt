-- Document 02, §10 in numbers: where a cut shows and where it does not. All passes predict by the whole
-- of their source (weights 1024), do not adapt (delta 0), and begin with histories of zeros. Assumes
-- nothing.
use Rattle.std.specs.Prelude.{◌≡◌, List, [], ◌∷◌, ℕ, ◌≤◌, ℤ, pos, neg_ℤ, replicate}
use Rattle.passes.specs.Making.{padded}
use Rattle.passes.specs.declared.DecorrPass.{DecorrPass}
use Rattle.decorrelation.specs.Lists.{Answer, decorrelation}
use Rattle.cut_buffers.specs.Cut.{in_two, in_parts, cut_into}

-- a negative number, written by its size
abbrev pub minus : ℕ → ℤ
minus n = neg_ℤ (pos n)

-- a pass of this term whose histories begin so
abbrev pub pass_with : ℤ → List ℤ → List ℤ → DecorrPass
pass_with term beginsA beginsB =
    record {
      term = term;
      delta = pos 0;
      weight_a = pos 1024;
      weight_b = pos 1024;
      history_a = padded beginsA;
      history_b = padded beginsB;
    }

-- a list of one pass of this term, as it is made
abbrev pub alone : ℤ → List DecorrPass
alone term = pass_with term [] [] ∷ []

-- an accepted call that leaves this pass and this buffer
abbrev pub leaves : DecorrPass → List ℤ → Answer
leaves pass buffer = record { refusal = 0; passes = pass ∷ []; buffer = buffer }

-- ---- a fixed lag, cut after one frame

-- two frames and an odd last element
abbrev pub residuals : List ℤ
residuals = pos 1 ∷ pos 2 ∷ pos 3 ∷ pos 4 ∷ pos 7 ∷ []

-- lag 1: in one call the second frame is predicted from the first; in a call of its own it is
-- predicted from the 0 with which the history began, since the history index restarts (Q10.3)
pub record AfterOneFrame : Type 0 where
  pub in_one_call_lem :
      decorrelation (alone (pos 1)) residuals
      ≡ leaves (pass_with (pos 1) (pos 0 ∷ pos 1 ∷ pos 4 ∷ []) (pos 0 ∷ pos 2 ∷ pos 6 ∷ []))
      (pos 1 ∷ pos 2 ∷ pos 4 ∷ pos 6 ∷ pos 7 ∷ [])
  pub first_part_lem :
      (in_two decorrelation (alone (pos 1)) 1 residuals).first
      ≡ leaves (pass_with (pos 1) (pos 0 ∷ pos 1 ∷ []) (pos 0 ∷ pos 2 ∷ [])) (pos 1 ∷ pos 2 ∷ [])
  pub second_part_lem :
      (in_two decorrelation (alone (pos 1)) 1 residuals).second
      ≡ leaves (pass_with (pos 1) (pos 0 ∷ pos 3 ∷ []) (pos 0 ∷ pos 4 ∷ [])) (pos 3 ∷ pos 4 ∷ pos 7 ∷ [])

-- the same residuals by term 17, which has no history index: the cut does not show (Q10.2)
pub record WithoutLag : Type 0 where
  pub in_one_call_lem :
      decorrelation (alone (pos 17)) residuals
      ≡ leaves (pass_with (pos 17) (pos 5 ∷ pos 1 ∷ []) (pos 8 ∷ pos 2 ∷ [])) (pos 1 ∷ pos 2 ∷ pos 5 ∷ pos 8 ∷ pos 7 ∷ [])
  pub second_part_lem :
      (in_two decorrelation (alone (pos 17)) 1 residuals).second
      ≡ leaves (pass_with (pos 17) (pos 5 ∷ pos 1 ∷ []) (pos 8 ∷ pos 2 ∷ [])) (pos 5 ∷ pos 8 ∷ pos 7 ∷ [])

-- ---- eight frames, and not four

-- lag 4: a cut after as many frames as the lag is not enough. The fifth frame is predicted from the
-- first in one call, and from 0 in a call of its own (Q10.3)
abbrev pub five_frames : List ℤ
five_frames =
    pos 1 ∷ pos 10 ∷ pos 2 ∷ pos 20 ∷ pos 3 ∷ pos 30 ∷ pos 4 ∷ pos 40 ∷ pos 5 ∷ pos 50 ∷ pos 7 ∷ []

pub record AfterFourFrames : Type 0 where
  pub in_one_call_lem :
      (decorrelation (alone (pos 4)) five_frames).buffer
      ≡ pos 1 ∷ pos 10 ∷ pos 2 ∷ pos 20 ∷ pos 3 ∷ pos 30 ∷ pos 4 ∷ pos 40 ∷ pos 6 ∷ pos 60 ∷ pos 7 ∷ []
  pub in_two_lem :
      (in_parts decorrelation (alone (pos 4)) (cut_into (4 ∷ []) five_frames)).buffer
      ≡ pos 1 ∷ pos 10 ∷ pos 2 ∷ pos 20 ∷ pos 3 ∷ pos 30 ∷ pos 4 ∷ pos 40 ∷ pos 5 ∷ pos 50 ∷ pos 7 ∷ []

-- frames whose left numbers are these and whose right ones are their negations
abbrev pub mirrored : List ℕ → List ℤ → List ℤ
mirrored [] behind = behind
mirrored (n ∷ ns) behind = pos n ∷ minus n ∷ mirrored ns behind

-- lag 1, nine frames that are all 1 and -1, and an odd last element: after eight frames the ninth goes
-- on from the eighth, as in one call (Q10.1)
abbrev pub nine_frames : List ℤ
nine_frames = mirrored (replicate 9 1) (pos 7 ∷ [])

abbrev pub nine_after : DecorrPass
nine_after =
    pass_with (pos 1) (pos 8 ∷ pos 9 ∷ pos 2 ∷ pos 3 ∷ pos 4 ∷ pos 5 ∷ pos 6 ∷ pos 7 ∷ [])
    (minus 8 ∷ minus 9 ∷ minus 2 ∷ minus 3 ∷ minus 4 ∷ minus 5 ∷ minus 6 ∷ minus 7 ∷ [])

pub record AfterEightFrames : Type 0 where
  pub in_one_call_lem :
      decorrelation (alone (pos 1)) nine_frames
      ≡ leaves nine_after (mirrored (1 ∷ 2 ∷ 3 ∷ 4 ∷ 5 ∷ 6 ∷ 7 ∷ 8 ∷ 9 ∷ []) (pos 7 ∷ []))
  pub second_part_lem : (in_two decorrelation (alone (pos 1)) 8 nine_frames).second ≡ leaves nine_after (mirrored (9 ∷ []) (pos 7 ∷ []))

-- every lag needs all eight: over sixteen frames that are all 1, a cut after one to seven frames gives
-- other samples than one call (Q10.3)
abbrev pub ones : List ℤ
ones = replicate 32 (pos 1)

abbrev pub EightIsNeeded : Type 0
EightIsNeeded =
    (lag frames : ℕ) → 1 ≤ lag → lag ≤ 8 → 1 ≤ frames → frames ≤ 7
    → (in_parts decorrelation (alone (pos lag)) (cut_into (frames ∷ []) ones)).buffer ≡ (decorrelation (alone (pos lag)) ones).buffer
    → ⊥
