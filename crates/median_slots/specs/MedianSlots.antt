-- Medians as slots, and the bits before them.
-- Assumes nothing.
use Rattle.std.specs.Prelude.{ℕ, List, [], ◌∷◌, ◌++◌}
use Rattle.entropy.specs.Medians.{Medians, MedianPair}

-- the 3 slots of a set of medians
abbrev pub median_slots : Medians → List ℕ
median_slots m = m.m0 ∷ m.m1 ∷ m.m2 ∷ []

-- the 6 slots of both sets: left medians, right medians
abbrev pub pair_slots : MedianPair → List ℕ
pair_slots p = median_slots p.left ++ median_slots p.right

-- the 7 slots that reading and packing have in common: bits, left medians, right medians
abbrev pub count_slots : ℕ → MedianPair → List ℕ
count_slots bits p = bits ∷ pair_slots p
