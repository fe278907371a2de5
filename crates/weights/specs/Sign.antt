-- A choice by a sign, as the code of the weight updates makes it. Assumes nothing.
-- ---- for the code alone
use Rattle.std.specs.Prelude.{zero, suc, ℤ, pos, negsuc}
use Rattle.weights.specs.Weights.{Way}

-- u above 0, d below 0, s at 0
abbrev pub by_sign : ℤ → ℤ → ℤ → ℤ → ℤ
by_sign (pos zero) u d s = s
by_sign (pos (suc n)) u d s = u
by_sign (negsuc n) u d s = d

-- u for up, d for down, s for still
abbrev pub chosen : Way → ℤ → ℤ → ℤ → ℤ
chosen Way.still u d s = s
chosen Way.up u d s = u
chosen Way.down u d s = d
