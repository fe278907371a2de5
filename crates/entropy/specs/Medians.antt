-- Document 01, "One word" (W0): the state has two sets of three medians, picked by the channel due.
-- What the code's arrays stand for.
-- Assumes nothing.
use Rattle.std.specs.Prelude.{ℕ, ◌≤◌, List, [], ◌∷◌, get_or}
use Rattle.entropy.specs.declared.AdaptiveMedians.{AdaptiveMedians}

-- a set of three medians
pub record Medians : Type 0 where
  pub m0 : ℕ
  pub m1 : ℕ
  pub m2 : ℕ

-- the sets of both channels
pub record MedianPair : Type 0 where
  pub left : Medians
  pub right : Medians

-- each median of a set is a number of 32 bits, as the code holds it
pub record Small (m : Medians) : Type 0 where
  pub small0 : m.m0 ≤ 4294967295
  pub small1 : m.m1 ≤ 4294967295
  pub small2 : m.m2 ≤ 4294967295

-- the set that an array of three holds
abbrev pub medians_of : AdaptiveMedians → Medians
medians_of a = record { m0 = get_or a.values 0 0; m1 = get_or a.values 1 0; m2 = get_or a.values 2 0 }

-- a set of zeros
abbrev pub zero_set : AdaptiveMedians
zero_set = record { values = 0 ∷ 0 ∷ 0 ∷ [] }

-- both sets 0
abbrev pub zero_sets : List AdaptiveMedians
zero_sets = zero_set ∷ zero_set ∷ []

-- the two sets that an array of two holds: channel 0 is left, channel 1 right
abbrev pub pair_of : List AdaptiveMedians → MedianPair
pair_of sets = record { left = medians_of (get_or sets 0 zero_set); right = medians_of (get_or sets 1 zero_set) }

-- all six medians 0
abbrev pub zero_pair : MedianPair
zero_pair = record { left = medians_of zero_set; right = medians_of zero_set }
