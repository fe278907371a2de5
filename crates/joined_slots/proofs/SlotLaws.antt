-- Lists of slots one behind the other. Assumes nothing.
use mathlib.Core.Path.{◌≡◌}
use mathlib.Core.List.{List, [], ◌∷◌, ◌++◌}
use Prim.Native.Nat.{ℕ, zero, suc, ◌+◌, ◌*◌, ◌/◌, ◌%◌}
use native.Mathlib.Nat.{zero-add}
use native.Mathlib.Omega.{arith}
use lib.IntN.{ℤ}
use lib.ListN.{length, drop, length-append, length-drop}
use lib.Seq.{drop-append-le}
use Rattle.made_slots.specs.MadeSlots.{pass_slots}
use Rattle.pass_slots.specs.PassSlots.{passes_of, passes_in}
use Rattle.pass_slots.proofs.PassSlotLaws.{pass-first}

-- the passes of two lists of slots, one behind the other
pub passes-joined : (m n : ℕ) (xs ys : List ℤ) → length xs ≡ m * pass_slots → passes_of (m + n) (xs ++ ys) ≡
    passes_of m xs ++ passes_of n ys
passes-joined zero n [] ys e = rw (zero-add n)
passes-joined zero n (x ∷ xs) ys e = absurd (omega arith)
passes-joined (suc m) n xs ys e =
    let more : suc m + n ≡ suc (m + n) = omega arith in
    let tail : length (drop pass_slots xs) ≡ m * pass_slots = rw (length-drop pass_slots xs) (omega arith) in
    rw (
      more,
      pass-first xs ys (omega arith),
      drop-append-le pass_slots xs ys (omega arith),
      passes-joined m
          n (drop pass_slots xs) ys tail,
    )

-- the passes that two lists of slots hold, one behind the other
pub passes_in-joined : (xs ys : List ℤ) → length xs % pass_slots ≡ 0 → length ys % pass_slots ≡ 0 → passes_in
    (xs ++ ys) ≡ passes_in xs ++ passes_in ys
passes_in-joined xs ys e f =
    let count : length (xs ++ ys) / pass_slots ≡ length xs / pass_slots + length ys / pass_slots = rw
    (length-append xs ys) (omega (arith, e, f)) in
    rw count (passes-joined (length xs / pass_slots) (length ys / pass_slots) xs ys (omega (arith, e)))
