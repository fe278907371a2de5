-- The steps of the round trip, by what the functions that they call promise.
-- Assumes nothing.
use mathlib.Core.Path.{◌≡◌, refl, sym, ap, ◌∙◌}
use mathlib.Core.Bool.{Bool}
use mathlib.Core.List.{List}
use Prim.Native.Nat.{ℕ, ◌/◌}
use lib.IntN.{ℤ}
use lib.ListN.{length}
use native.Mathlib.Omega.{arith}
use borrow.Author.Tests.{ne_eqb}
use lib.Dec.{eqb}
use Rattle.std.specs.Prelude.{Result, Ok, Err}
use Rattle.std.specs.Result.{is_ok}
use Rattle.answers.specs.declared.Refusal.{Refusal}
use Rattle.answers.specs.Numbers.{number_of, outcome_number}
use Rattle.answers.proofs.NumberLaws.{number-positive}
use Rattle.samples.specs.View.{ReadTold, view_reading, read_entry}
use Rattle.samples.specs.declared.ReadAnswer.{ReadAnswer}
use Rattle.passes.specs.declared.DecorrPass.{DecorrPass}
use Rattle.passes.specs.declared.Direction.TheVariants.{Decorrelation}
use Rattle.decorrelation.specs.Lists.{Answer, array_answer}
use Rattle.trip_lists.specs.Same.{SameIs}
use Rattle.trip_steps.specs.Steps.{came_back, samples_back, BackIs}

-- a test of an answer is one of its number
pub ok_is : {T : Type 0} (o : Result T Refusal) → is_ok o ≡ eqb (outcome_number o) 0
ok_is (Ok v) = refl
ok_is (Err q) = sym (ne_eqb (number_of q) 0 (λ e. omega (arith, number-positive q)))

-- a payload, read and decorrelated
pub back_is :
    (ps : List DecorrPass) (n : ℕ) (entropy payload : List ℕ) (written : ℕ) (x before list y : List ℤ)
    (d : ReadAnswer) (o : Result (List DecorrPass) Refusal) (after : List DecorrPass) (q r : Bool)
    → view_reading d list ≡ read_entry entropy payload (length x / 2) before
    → record { refusal = outcome_number o; passes = after; buffer = y } ≡ array_answer Decorrelation ps n list
    → SameIs x y q → r ≡ came_back (outcome_number d.outcome) (outcome_number o) d.bits written q
    → BackIs ps n entropy payload written x before y r
back_is ps n entropy payload written x before list y d o after q r e f s t =
    let read = read_entry entropy payload (length x / 2) before in
    let g = f ∙ ap (samples_back ps n) e in
    let m = (samples_back ps n read).refusal in
    record {
      equal = q;
      equal_is = s;
      leaves = ap (λ (a : Answer). a.buffer) g;
      told =
          t
          ∙ ap (λ (a : ReadTold). came_back a.refusal (outcome_number o) d.bits written q) e
          ∙ ap (λ (a : Answer). came_back read.refusal a.refusal d.bits written q) g
          ∙ ap (λ (a : ReadTold). came_back read.refusal m a.bits written q) e;
    }
