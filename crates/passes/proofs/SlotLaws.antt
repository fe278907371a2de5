-- The laws of a seeded history, slot by slot (rows P4 and P5). Assumes nothing.
use mathlib.Core.Path.{◌≡◌, refl, ap, ◌∙◌}
use mathlib.Core.Bool.{Bool, true, false}
use mathlib.Core.List.{List, [], ◌∷◌, ◌++◌, reverse, reverse-append}
use Prim.Native.Nat.{ℕ, zero, suc, ◌+◌, ◌-◌, ◌<◌, ◌≤◌}
use native.Mathlib.Omega.{arith}
use lib.IntN.{ℤ, pos}
use lib.ListN.{length, get_or, take, replicate, length-append, length-replicate, length-reverse, length-take, get_or-append}
use lib.Seq.{take-suc, get_or-take}
use Rattle.passes.specs.Making.{ordered, padded}

zeros : (k j : ℕ) → get_or (replicate k (pos 0)) j (pos 0) ≡ pos 0
zeros zero j = refl
zeros (suc k) zero = refl
zeros (suc k) (suc j) = zeros k j

behind : (l : List ℤ) (k j : ℕ) → length l ≤ j → get_or (l ++ replicate k (pos 0)) j (pos 0) ≡ pos 0
behind [] k j h = zeros k j
behind (x ∷ l) k zero h = absurd (omega arith)
behind (x ∷ l) k (suc j) h = behind l k j (omega arith)

taken : (n : ℕ) (seed : List ℤ) → n ≤ length seed → length (take n seed) ≡ n
taken n seed h = simp length-take (omega arith)

ordered-length : (reversed : Bool) (l : List ℤ) → length (ordered reversed l) ≡ length l
ordered-length true l = length-reverse l
ordered-length false l = refl

-- a history has eight slots
pub padded-length : (reversed : Bool) (n : ℕ) (seed : List ℤ) → n ≤ 8 → length (padded (ordered reversed (take n seed))) ≡ 8
padded-length reversed n seed h = simp (length-append, length-replicate, ordered-length, length-take) (omega arith)

-- in order: slot j holds sample j
pub slot-ordered : (n j : ℕ) (seed : List ℤ) → n ≤ length seed → j < n → get_or (padded (take n seed)) j (pos 0) ≡ get_or seed j (pos 0)
slot-ordered n j seed h k = get_or-append (take n seed) _ (pos 0) j (rw (taken n seed h) k) ∙ get_or-take n seed j (pos 0) k

last-first : (n : ℕ) (seed : List ℤ) → n < length seed → reverse (take (suc n) seed) ≡ get_or seed n (pos 0) ∷ reverse (take n seed)
last-first n seed h = rw (take-suc seed n (pos 0) h) (reverse-append (take n seed) (get_or seed n (pos 0) ∷ []))

reversed_at : (n j : ℕ) (seed : List ℤ) → n ≤ length seed → j < n → get_or (reverse (take n seed)) j (pos 0) ≡ get_or seed (n - 1 - j) (pos 0)
reversed_at zero j seed h k = absurd (omega arith)
reversed_at (suc n) zero seed h k = let e : n ≡ suc n - 1 - 0 = omega arith in rw (last-first n seed h) (ap (λ i. get_or seed i (pos 0)) e)
reversed_at (suc n) (suc j) seed h k =
    let e : n - 1 - j ≡ suc n - 1 - suc j = omega arith in
    rw (last-first n seed h) (reversed_at n j seed (omega arith) (omega arith) ∙ ap (λ i. get_or seed i (pos 0)) e)

-- in reverse: slot j holds sample n - 1 - j
pub slot_reversed : (n j : ℕ) (seed : List ℤ) → n ≤ length seed → j < n → get_or (padded (reverse (take n seed))) j (pos 0) ≡ get_or seed (n - 1 - j) (pos 0)
slot_reversed n j seed h k =
    get_or-append (reverse (take n seed)) _ (pos 0) j (rw (length-reverse (take n seed), taken n seed h) k) ∙ reversed_at n j seed h k

-- behind them: 0
pub slot-behind : (reversed : Bool) (n j : ℕ) (seed : List ℤ) → n ≤ length seed → n ≤ j → get_or (padded (ordered reversed (take n seed))) j (pos 0) ≡ pos 0
slot-behind reversed n j seed h k = behind (ordered reversed (take n seed)) (8 - length (ordered reversed (take n seed))) j (rw (ordered-length reversed (take n seed), taken n seed h) k)

-- an empty seed gives zeros
pub empty-seed : (reversed : Bool) (n : ℕ) (seed : List ℤ) → length seed ≡ 0 → padded (ordered reversed (take n seed)) ≡ replicate 8 (pos 0)
empty-seed true zero [] e = refl
empty-seed true (suc n) [] e = refl
empty-seed false zero [] e = refl
empty-seed false (suc n) [] e = refl
empty-seed reversed n (x ∷ seed) e = absurd (omega arith)
