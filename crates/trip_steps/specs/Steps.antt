-- Demand 3 at run time, step by step: the early refusals, and the way back.
-- Assumes nothing.
use Rattle.std.specs.Prelude.{◌≡◌, Bool, ◌&&◌, List, ℕ, ◌/◌, eqb, ℤ, length, take}
use Rattle.answers.specs.Guard.{or_else}
use Rattle.samples.specs.View.{ReadTold, read_entry}
use Rattle.passes.specs.declared.DecorrPass.{DecorrPass}
use Rattle.passes.specs.declared.Direction.TheVariants.{Decorrelation}
use Rattle.list_tests.specs.Tests.{all_valid}
use Rattle.decorrelation.specs.Lists.{Answer, analysis_number, array_answer}
use Rattle.packing.specs.Entry.{refusal_before_span}
use Rattle.trip_lists.specs.Same.{SameIs}

-- what analysis by the first `count` passes refuses (5, 9, 7), and then packing before it looks at
-- a residual (6, 1, 17, 2, 11)
abbrev pub early_refusal : List DecorrPass → ℕ → ℕ → List ℕ → ℕ → ℕ
early_refusal passes count elements entropy room =
    or_else (analysis_number (all_valid (take count passes)) count elements)
    (refusal_before_span elements entropy (elements / 2) room)

-- whether both refuse nothing, as many bits are used as were written, and the samples are equal
abbrev pub came_back : ℕ → ℕ → ℕ → ℕ → Bool → Bool
came_back read decorrelated used written equal = eqb read 0 && eqb decorrelated 0 && eqb used written && equal

-- a payload read into the scratch list
abbrev pub read_back : List ℕ → List ℕ → List ℤ → List ℤ → ReadTold
read_back entropy payload recording scratch = read_entry entropy payload (length recording / 2) scratch

-- and decorrelated there
abbrev pub samples_back : List DecorrPass → ℕ → ReadTold → Answer
samples_back passes count read = array_answer Decorrelation passes count read.list

-- what that leaves there, and whether it is the recording
pub record BackIs (passes : List DecorrPass) (count : ℕ) (entropy payload : List ℕ) (written : ℕ)
    (recording before after : List ℤ) (r : Bool) : Type 0 where
  pub equal : Bool
  pub equal_is : SameIs recording after equal
  pub leaves : after ≡ (samples_back passes count (read_back entropy payload recording before)).buffer
  pub told :
      let read = read_back entropy payload recording before in
      r ≡ came_back read.refusal (samples_back passes count read).refusal read.bits written equal
