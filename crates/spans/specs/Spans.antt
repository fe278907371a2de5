-- A span of signed numbers: from minus its size up to one below it, as the residuals that packing
-- takes (X6) and the 16 bits of a sound file (Q1.3) have one.
-- Assumes nothing.
use Rattle.std.specs.Prelude.{ℕ, Bool, true, cond, ◌&&◌, List, [], ◌∷◌, ltb, ℤ}
use Rattle.std.specs.Int.Signed.{mag}

-- every number v of a list, or -v - 1 for a negative one, lies below the span
unfoldable pub within : ℕ → List ℤ → Bool
within span [] = true
within span (v ∷ vs) = ltb (mag v) span && within span vs

-- ---- for the code alone

-- 1 for a number outside the span
abbrev pub excess_of : ℕ → ℤ → ℕ
excess_of span v = cond (ltb (mag v) span) 0 1
