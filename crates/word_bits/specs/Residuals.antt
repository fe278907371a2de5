-- Document 01, "Packing": what is asked of residuals, whatever the state: stretches of zeros (K2),
-- the count of the next one (K5), the sign (I6), the span.
-- Assumes nothing.
use Rattle.std.specs.Prelude.{Bool, false, List, [], ◌∷◌, ℕ, zero, suc, ltb, ℤ, pos, negsuc}
use Rattle.std.specs.Int.Signed.{mag}
use Rattle.answers.specs.Limits.{residual_span}
use Rattle.spans.specs.Spans.{within}
use Rattle.entropy.specs.Medians.{Medians}
use Rattle.word_bits.specs.Counts.{count}

-- "the length of the unbroken stretch of zero residuals that starts here" (K2)
unfoldable pub zeros : List ℤ → ℕ
zeros [] = zero
zeros (pos zero ∷ vs) = suc (zeros vs)
zeros (pos (suc n) ∷ vs) = zero
zeros (negsuc n ∷ vs) = zero

-- "a next word exists and its k is above 0" (K5), m being the medians that are due then
unfoldable pub ahead : Medians → List ℤ → Bool
ahead m [] = false
ahead m (v ∷ vs) = ltb 0 (count m (mag v))

-- the sign bit of a residual (I6)
abbrev pub sign : ℤ → ℕ
sign (pos n) = 0
sign (negsuc n) = 1

-- every residual lies within demand 3's span, -1,879,048,192 to 1,879,048,191
abbrev pub spanned : List ℤ → Bool
spanned residuals = within residual_span residuals
