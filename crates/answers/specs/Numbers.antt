-- Document 01, "Why each operation says no", and document 02: the refusal numbers. The promises of
-- all entries use these two definitions.
-- Assumes nothing.
use Rattle.std.specs.Prelude.{ℕ, Result, Ok, Err}
use Rattle.answers.specs.declared.Refusal.{Refusal}

-- the number of a refusal
abbrev pub number_of : Refusal → ℕ
number_of Refusal.EntropyLength = 1
number_of Refusal.NotStereo = 2
number_of Refusal.Truncated = 3
number_of Refusal.EndOfStream = 4
number_of Refusal.TooLarge = 5
number_of Refusal.ListLength = 6
number_of Refusal.InvalidTerm = 7
number_of Refusal.SeedTooShort = 8
number_of Refusal.TooManyPasses = 9
number_of Refusal.ResidualOutOfSpan = 10
number_of Refusal.OutputTooShort = 11
number_of Refusal.InvalidChannel = 12
number_of Refusal.SampleOutOfSpan = 13
number_of Refusal.NotWave = 14
number_of Refusal.FieldAbove31 = 15
number_of Refusal.NotReinsertable = 16
number_of Refusal.LogWordOutOfReach = 17
number_of Refusal.BadBlock = 18
number_of Refusal.RecordingTwice = 19

-- the number of an answer: 0 means accepted
abbrev pub outcome_number : {T : Type 0} → Result T Refusal → ℕ
outcome_number (Ok value) = 0
outcome_number (Err refusal) = number_of refusal
