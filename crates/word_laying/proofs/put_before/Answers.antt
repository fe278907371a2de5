-- `word_laying::put_before` meets its contract.
-- Assumes nothing.
use mathlib.Core.Path.{refl, sym}
use mathlib.Core.Path.{◌≡◌}
use mathlib.Core.List.{List}
use Prim.Native.Nat.{ℕ, ◌≤◌}
use lib.IntN.{ℤ}
use native.Mathlib.Omega.{arith}
use lib.ListN.{length, length-drop, drop}
use Rattle.answers.specs.Limits.{max_elements}
use Rattle.bits.proofs.LaidLaws.{put_nil}
use Rattle.fields.proofs.LongLaws.{run_long}
use Rattle.word_bits.specs.Residuals.{zeros}
use Rattle.word_bits.proofs.ZeroLaws.{zeros_le}
use Rattle.word_laying.proofs.put_before.Goals as goal

-- a stretch of zeros is no longer than the list
few : (i r : ℕ) (vs : List ℤ) → length vs ≤ max_elements → r ≡ zeros (drop i vs) → r ≤ max_elements
few i r vs h e = omega (arith, zeros_le (drop i vs), length-drop i vs)

pub overflow_cast-run : goal.overflow_cast-run
overflow_cast-run c =
    let k = few c.args.i _ c.args.residuals.now c.requires.limit c.zeros_from-run.ensures in record
    { fits = omega arith }

pub put_run-place-requires-clause-room : goal.put_run-place-requires-clause-room
put_run-place-requires-clause-room c =
    let k = few c.args.i _ c.args.residuals.now c.requires.limit c.zeros_from-run.ensures in
    omega (arith, run_long c.zeros_from-run.result 32 (omega arith) (omega arith) (omega arith))

pub returns : goal.returns
returns c =
    rw c.if-due.false (record {
      put_is = record { bytes = sym (put_nil _ _); place = omega arith };
      run_is = refl;
    })
