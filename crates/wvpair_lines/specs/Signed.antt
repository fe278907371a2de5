-- Document 01, "Proved cases" (C6): the samples that `wvpair` prints, as ASCII text.
-- Assumes nothing.
use Rattle.std.specs.Prelude.{cond, List, [], ◌∷◌, ℕ, suc, eqb, ℤ, pos, negsuc, neg_ℤ}
use Rattle.decimal.specs.Decimal.{decimal, read_digits}

-- an integer in decimal, with `-` before a negative one
unfoldable pub signed_decimal : ℤ → List ℕ
signed_decimal (pos n) = decimal n
signed_decimal (negsuc n) = 45 ∷ decimal (suc n)

-- the integer that such a text stands for
unfoldable pub read_signed : List ℕ → ℤ
read_signed [] = pos 0
read_signed (c ∷ cs) = cond (eqb c 45) (neg_ℤ (pos (read_digits 0 cs))) (pos (read_digits 0 (c ∷ cs)))
