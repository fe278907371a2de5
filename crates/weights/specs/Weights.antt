-- Document 01, "Passes": the prediction, the sample, and what a step makes of a weight. Numbers are
-- whole numbers of any size; what is kept to 32 bits says so. Assumes nothing.
use Rattle.std.specs.Prelude.{cond, zero, suc, ℤ, pos, negsuc, neg_ℤ, ◌+ℤ◌, ◌-ℤ◌, ◌*ℤ◌}
use Rattle.std.specs.Int.Signed.{lt_z}
use Rattle.wrapping.specs.Wrap.{wrap32, floor_div}

-- "Prediction: (weight times source + 512) shifted right by 10, kept to 32 bits" (P6)
unfoldable pub predict : ℤ → ℤ → ℤ
predict weight source = wrap32 (floor_div (weight *ℤ source +ℤ pos 512) 1024)

-- "the sample is prediction plus residual, and this sum wraps at 32 bits" (P7)
unfoldable pub sample : ℤ → ℤ → ℤ → ℤ
sample weight source res = wrap32 (predict weight source +ℤ res)

-- analysis: the residual is the sample less the prediction (P12)
unfoldable pub residual : ℤ → ℤ → ℤ → ℤ
residual weight source x = wrap32 (x -ℤ predict weight source)

-- the source of term 17, from the last sample and the one before it: the products by 2 and 3 wrap
-- (P7, P8)
unfoldable pub source17 : ℤ → ℤ → ℤ
source17 last before = wrap32 (wrap32 (last *ℤ pos 2) -ℤ before)

-- the source of term 18: half, rounded down
unfoldable pub source18 : ℤ → ℤ → ℤ
source18 last before = floor_div (wrap32 (wrap32 (last *ℤ pos 3) -ℤ before)) 2

-- which way a step moves a weight
pub data Way : Type 0 where
  still : Way
  up : Way
  down : Way

-- not at all where the source or the residual is 0, up where their signs agree, down where they
-- differ (P8)
abbrev pub way_of : ℤ → ℤ → Way
way_of (pos zero) r = Way.still
way_of (pos (suc s)) (pos zero) = Way.still
way_of (pos (suc s)) (pos (suc r)) = Way.up
way_of (pos (suc s)) (negsuc r) = Way.down
way_of (negsuc s) (pos zero) = Way.still
way_of (negsuc s) (pos (suc r)) = Way.down
way_of (negsuc s) (negsuc r) = Way.up

-- by delta, wrapping at 32 bits
abbrev pub moved : Way → ℤ → ℤ → ℤ
moved Way.still weight delta = weight
moved Way.up weight delta = wrap32 (weight +ℤ delta)
moved Way.down weight delta = wrap32 (weight -ℤ delta)

-- x, and 1024 where x is above it
unfoldable pub at_most1024 : ℤ → ℤ
at_most1024 x = cond (lt_z (pos 1024) x) (pos 1024) x

-- a cross weight: it is cut at 1024 where it grows, and its negation is where it falls (P9). For
-- weights and deltas of any size this is not a cut to -1024 and 1024
abbrev pub moved_clip : Way → ℤ → ℤ → ℤ
moved_clip Way.still weight delta = weight
moved_clip Way.up weight delta = at_most1024 (wrap32 (weight +ℤ delta))
moved_clip Way.down weight delta = wrap32 (neg_ℤ (at_most1024 (wrap32 (delta -ℤ weight))))

-- a weight after a step with this source and residual: the terms that do not clip
unfoldable pub updated : ℤ → ℤ → ℤ → ℤ → ℤ
updated weight delta source res = moved (way_of source res) weight delta

-- the cross terms
unfoldable pub updated_clip : ℤ → ℤ → ℤ → ℤ → ℤ
updated_clip weight delta source res = moved_clip (way_of source res) weight delta
