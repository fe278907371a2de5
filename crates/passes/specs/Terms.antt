-- Document 01, "Passes": the valid terms, and which are cross terms. Assumes nothing.
use Rattle.std.specs.Prelude.{Bool, true, false, cond, zero, suc, leb, eqb, ℤ, pos, negsuc}
use Rattle.passes.specs.declared.Term.{Term}
use Rattle.passes.specs.declared.Term.TheVariants.{Lag, Seventeen, Eighteen, MinusOne, MinusTwo, MinusThree, Invalid}

-- "Valid terms: 1 to 8, 17, 18, -1, -2, -3" (P3)
unfoldable pub term_of : ℤ → Term
term_of (pos zero) = Invalid
term_of (pos (suc n)) =
    cond (leb (suc n) 8) (Lag (suc n)) (cond (eqb (suc n) 17) Seventeen (cond (eqb (suc n) 18) Eighteen Invalid))
term_of (negsuc zero) = MinusOne
term_of (negsuc (suc zero)) = MinusTwo
term_of (negsuc (suc (suc zero))) = MinusThree
term_of (negsuc (suc (suc (suc n)))) = Invalid

-- whether a number stands for one of the thirteen
abbrev pub is_valid : Term → Bool
is_valid (Lag t) = true
is_valid Seventeen = true
is_valid Eighteen = true
is_valid MinusOne = true
is_valid MinusTwo = true
is_valid MinusThree = true
is_valid Invalid = false

-- the terms that predict one channel from the other
abbrev pub is_cross : Term → Bool
is_cross (Lag t) = false
is_cross Seventeen = false
is_cross Eighteen = false
is_cross MinusOne = true
is_cross MinusTwo = true
is_cross MinusThree = true
is_cross Invalid = false

-- the terms 1 to 8, the fixed lags
abbrev pub is_lag : Term → Bool
is_lag (Lag t) = true
is_lag Seventeen = false
is_lag Eighteen = false
is_lag MinusOne = false
is_lag MinusTwo = false
is_lag MinusThree = false
is_lag Invalid = false
