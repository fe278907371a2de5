-- What every refusal number is, and the number of the first of two outcomes.
-- Assumes nothing.
use mathlib.Core.Path.{◌≡◌, refl, sym, ap, ◌∙◌}
use Prim.Native.Nat.{ℕ, zero, suc, ◌<◌}
use native.Mathlib.Omega.{arith}
use Rattle.answers.specs.declared.Refusal.{Refusal}
use Rattle.std.specs.Prelude.{Result, Ok, Err}
use Rattle.std.specs.Result.{result_and}
use Rattle.answers.specs.Guard.{or_else}
use Rattle.answers.specs.Numbers.{number_of, outcome_number}
use Rattle.answers.proofs.GuardLaws.{refused-first}

-- a refusal's number is not 0
pub number-positive : (r : Refusal) → 0 < number_of r
number-positive Refusal.EntropyLength = omega arith
number-positive Refusal.NotStereo = omega arith
number-positive Refusal.Truncated = omega arith
number-positive Refusal.EndOfStream = omega arith
number-positive Refusal.TooLarge = omega arith
number-positive Refusal.ListLength = omega arith
number-positive Refusal.InvalidTerm = omega arith
number-positive Refusal.SeedTooShort = omega arith
number-positive Refusal.TooManyPasses = omega arith
number-positive Refusal.ResidualOutOfSpan = omega arith
number-positive Refusal.OutputTooShort = omega arith
number-positive Refusal.InvalidChannel = omega arith
number-positive Refusal.SampleOutOfSpan = omega arith
number-positive Refusal.NotWave = omega arith
number-positive Refusal.FieldAbove31 = omega arith
number-positive Refusal.NotReinsertable = omega arith
number-positive Refusal.LogWordOutOfReach = omega arith
number-positive Refusal.BadBlock = omega arith
number-positive Refusal.RecordingTwice = omega arith

module _ {T : Type 0} where
  -- nor is a refused answer's
  pub refused-positive : (o : Result T Refusal) (r : Refusal) → o ≡ Err r → 0 < outcome_number o
  refused-positive o r e = rw e (number-positive r)

  -- of two answers a refusal of the first is told
  pub first-refuses : (o : Result T Refusal) (q : Refusal) (m later : ℕ) → o ≡ Err q → outcome_number o ≡ m → outcome_number o ≡ or_else m later
  first-refuses o q m later s e = rw (← e) (sym (refused-first (outcome_number o) later (refused-positive o q s)))

-- where the first refuses nothing, the second decides
pub second_decides : {T U : Type 0} (o : Result T Refusal) (r : Result U Refusal) (v : T) (m later : ℕ) → o ≡ Ok v → outcome_number o ≡ m
    → outcome_number r ≡ later → outcome_number r ≡ or_else m later
second_decides o r v m later s e t = let z : m ≡ 0 = sym e ∙ ap outcome_number s in rw z t

-- of two answers, one after the other, the first refusal is told
pub and_outcome : {T U : Type 0} (o : Result T Refusal) (r : Result U Refusal) → outcome_number (result_and o r) ≡ or_else (outcome_number o) (outcome_number r)
and_outcome (Ok v) r = refl
and_outcome (Err q) r = sym (refused-first (number_of q) (outcome_number r) (number-positive q))

-- what only accepts adds no refusal
pub or_none : (n : ℕ) → or_else n 0 ≡ n
or_none zero = refl
or_none (suc n) = refl
