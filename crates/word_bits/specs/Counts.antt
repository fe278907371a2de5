-- Document 01, "Packing" (K3): "the smallest count k whose interval contains v".
-- Assumes nothing.
use Rattle.std.specs.Prelude.{Bool, cond, ◌&&◌, ℕ, zero, suc, leb}
use Rattle.entropy.specs.Medians.{Medians}
use Rattle.medians.specs.Interval.{low_of, high_of}

-- the interval of count k contains v
abbrev pub contains : Medians → ℕ → ℕ → Bool
contains m k v = leb (low_of m k) v && leb v (high_of m k)

-- the smallest of the n numbers 0, 1, .. that p is true of; n where it is true of none
unfoldable pub least : (ℕ → Bool) → ℕ → ℕ
least p zero = zero
least p (suc n) = cond (p zero) zero (suc (least (λ j. p (suc j)) n))

-- the smallest count whose interval contains v. No count above v is tried: each interval is one
-- wide or more, so that of count k starts at k or above
unfoldable pub count : Medians → ℕ → ℕ
count m v = least (λ k. contains m k v) (suc v)
