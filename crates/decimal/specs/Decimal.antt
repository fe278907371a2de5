-- Numbers as ASCII text in decimal: those of `wvpair` (C6) and of the morning page (Q5.2). A text is
-- the list of its bytes.
-- Assumes nothing.
use Rattle.std.specs.Prelude.{cond, List, [], ◌∷◌, ◌++◌, ℕ, zero, suc, ◌+◌, ◌-◌, ◌*◌, ◌/◌, ◌%◌, ltb}

-- the digits of n, the most significant first, by at most k divisions by ten. The tenth part stands
-- in a `let`, which is computed only where it is asked for
unfoldable pub digits : ℕ → ℕ → List ℕ
digits zero n = []
digits (suc k) n = let tens = digits k (n / 10) in
    cond (ltb n 10) ((48 + n) ∷ []) (tens ++ ((48 + n % 10) ∷ []))

-- n in decimal; n + 1 divisions are always enough
unfoldable pub decimal : ℕ → List ℕ
decimal n = digits (suc n) n

-- the number that these digits stand for, after the digits of n
unfoldable pub read_digits : ℕ → List ℕ → ℕ
read_digits n [] = n
read_digits n (c ∷ cs) = read_digits (10 * n + (c - 48)) cs
