-- `EXP2_TABLE` meets its rule at all 256 entries, by one test that is computed over the whole
-- table.
-- Assumes nothing.
use mathlib.Core.Path.{◌≡◌, refl}
use mathlib.Core.Bool.{Bool, true, false, ◌&&◌}
use mathlib.Core.List.{List, [], ◌∷◌}
use Prim.Native.Nat.{ℕ, zero, suc, ◌+◌, ◌-◌, ◌*◌, ◌^◌, ◌<◌}
use native.Mathlib.Nat.{lt_trans, lt_irrefl, lt_of_lt_of_le, pow-le-pow_left, add-suc, suc-add, add-zero, zero-add}
use native.Mathlib.Omega.{arith}
use lib.Dec.{ltb}
use lib.ListN.{length, get_or}
use borrow.Author.Tests.{ltb-true}
use Rattle.logpack.specs.Exp2Table.{Rounded, exp2_table}

-- each entry passes the test at its place, the first of them at place i
abbrev passes : (ℕ → ℕ → Bool) → ℕ → List ℕ → Bool
passes test i [] = true
passes test i (x ∷ xs) = test i x && passes test (suc i) xs

first : (a b : Bool) → a && b ≡ true → a ≡ true
first true b e = refl
first false b e = e

second : (a b : Bool) → a && b ≡ true → b ≡ true
second true b e = e
second false b e = cc

-- a list that passes has passed at each of its places
passed : (test : ℕ → ℕ → Bool) (xs : List ℕ) (i : ℕ) → passes test i xs ≡ true → (k : ℕ) → k < length xs → test (i + k) (get_or xs k 0) ≡ true
passed test [] i e k h = absurd (omega arith)
passed test (x ∷ xs) i e zero h = rw (add-zero i) (first (test i x) (passes test (suc i) xs) e)
passed test (x ∷ xs) i e (suc k) h =
    rw (add-suc i k, ← suc-add i k) (passed test xs (suc i) (second (test i x) (passes test (suc i) xs) e) k (omega arith))

-- counted from the first entry on
each : (test : ℕ → ℕ → Bool) (xs : List ℕ) → passes test 0 xs ≡ true → (k : ℕ) → k < length xs → test k (get_or xs k 0) ≡ true
each test xs e k h = rw (zero-add k) at (passed test xs 0 e k h)

byte : ℕ → ℕ → Bool
byte i t = ltb t 256

-- an entry is a byte
pub entry_byte : (i : ℕ) → i < 256 → get_or exp2_table i 0 < 256
unfolding exp2_table byte
entry_byte i h = ltb-true (get_or exp2_table i 0) 256 (each byte exp2_table refl i h)

-- the one test: both bounds of the rule
rounded : ℕ → ℕ → Bool
rounded i t =
    ltb ((2 * (256 + t) - 1) ^ 256) (512 ^ 256 * 2 ^ i) && ltb (512 ^ 256 * 2 ^ i) ((2 * (256 + t) + 1) ^ 256)

-- a number that passes it meets the rule
meets : (i t : ℕ) → rounded i t ≡ true → Rounded i t
unfolding rounded
meets i t e =
    let a = ltb ((2 * (256 + t) - 1) ^ 256) (512 ^ 256 * 2 ^ i) in
    let b = ltb (512 ^ 256 * 2 ^ i) ((2 * (256 + t) + 1) ^ 256) in
    record { above = ltb-true _ _ (first a b e); below = ltb-true _ _ (second a b e) }

-- entry i is round(256 · 2^(i/256)) - 256
pub table_rule : (i : ℕ) → i < 256 → Rounded i (get_or exp2_table i 0)
unfolding exp2_table rounded
table_rule i h = meets i (get_or exp2_table i 0) (each rounded exp2_table refl i h)

-- one rounded entry is not below another
ordered : (i t u : ℕ) → Rounded i t → Rounded i u → (t < u → ⊥)
ordered i t u rt ru h =
    lt_irrefl _ (lt_of_lt_of_le (lt_trans ru.above rt.below) (pow-le-pow_left (omega arith) 256))

-- and no other number meets the rule
pub rule_unique : (i t u : ℕ) → Rounded i t → Rounded i u → t ≡ u
rule_unique i t u rt ru = omega (arith, ordered i t u rt ru, ordered i u t ru rt)
