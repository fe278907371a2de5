-- Document 01, "Why each operation says no": decorrelation and analysis of a list of passes, with
-- what they refuse (X5, `list_tests`). What they do to passes and buffer is defined in `passes`. Assumes
-- nothing.
use Rattle.std.specs.Prelude.{Bool, List, ◌++◌, ℕ, ℤ, length, take, drop}
use Rattle.answers.specs.Guard.{unless_refused}
use Rattle.passes.specs.Run.{Chain}
use Rattle.passes.specs.declared.DecorrPass.{DecorrPass}
use Rattle.passes.specs.declared.Direction.{Direction}
use Rattle.passes.specs.declared.Direction.TheVariants.{Decorrelation, Analysis}
use Rattle.list_tests.specs.Tests.{all_valid, list_number}
use Rattle.list_runs.specs.Chained.{chained}

-- decorrelation asks no more of a list
abbrev pub decorrelation_number : Bool → ℕ → ℕ → ℕ
decorrelation_number valid passes elements = list_number valid passes elements

-- nor does analysis
abbrev pub analysis_number : Bool → ℕ → ℕ → ℕ
analysis_number valid passes elements = list_number valid passes elements

-- what an entry leaves: its refusal, 0 for none, the passes and the buffer
pub record Answer : Type 0 where
  pub refusal : ℕ
  pub passes : List DecorrPass
  pub buffer : List ℤ

-- an accepted list answers what its run left
abbrev pub done : Chain → Answer
done c = record { refusal = 0; passes = c.passes; buffer = c.buffer }

-- on refusal "passes and buffer keep their values" (X5)
abbrev pub refuse_list : List DecorrPass → List ℤ → ℕ → Answer
refuse_list ps l n = record { refusal = n; passes = ps; buffer = l }

-- what each direction refuses
abbrev pub number_by : Direction → Bool → ℕ → ℕ → ℕ
number_by Decorrelation valid passes elements = decorrelation_number valid passes elements
number_by Analysis valid passes elements = analysis_number valid passes elements

-- a buffer by a list of passes, in either direction
unfoldable pub listed : Direction → List DecorrPass → List ℤ → Answer
listed d ps l = unless_refused (number_by d (all_valid ps) (length ps) (length l)) (refuse_list ps l) (done (chained d ps l))

-- decorrelation of a buffer by a list of passes
abbrev pub decorrelation : List DecorrPass → List ℤ → Answer
decorrelation ps l = listed Decorrelation ps l

-- analysis of a buffer by a list of passes
abbrev pub analysis : List DecorrPass → List ℤ → Answer
analysis ps l = listed Analysis ps l

-- a list of passes followed by those that are not run
abbrev pub followed : List DecorrPass → Chain → Chain
followed rest c = record { passes = c.passes ++ rest; buffer = c.buffer }

-- the first n passes of an array: those after them keep their values, and more than the array has are
-- refused by their number
unfoldable pub array_answer : Direction → List DecorrPass → ℕ → List ℤ → Answer
array_answer d ps n l =
    unless_refused (number_by d (all_valid (take n ps)) n (length l)) (refuse_list ps l) (done (followed (drop n ps) (chained d (take n ps) l)))
