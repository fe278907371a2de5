-- The numbers of specs/Example.antt, computed from the definitions. Assumes nothing.
use mathlib.Core.Path.{◌≡◌, refl, ap}
use mathlib.Core.List.{List}
use Prim.Native.Nat.{ℕ}
use native.Mathlib.Omega.{arith}
use lib.IntN.{ℤ, pos, nat_abs}
use lib.ListN.{get_or}
use Rattle.wrapping.specs.Wrap.{wrap32, low32}
use Rattle.weights.specs.Weights.{predict, sample, residual, source17, at_most1024, updated, updated_clip}
use Rattle.passes.specs.Terms.{term_of}
use Rattle.passes.specs.Step.{step, unstep, advanced}
use Rattle.passes.specs.Run.{passed}
use Rattle.list_tests.specs.Tests.{list_number}
use Rattle.decorrelation.specs.Lists.{listed}
use Rattle.joined_lists.specs.Example.{ByNumbers, OrderMatters, Seventeen}

-- two calls and one leave the same numbers
pub by_numbers : ByNumbers
unfolding listed list_number term_of passed step unstep advanced sample residual source17 predict updated updated_clip at_most1024 wrap32 low32
by_numbers =
    record {
      microphone-first = refl;
      then_the_stem = refl;
      both-at-once = refl;
      stem_undone = refl;
      then_the_microphone_undone = refl;
      both_undone_at-once = refl;
    }

-- the other order leaves other residuals
pub order_matters : OrderMatters
unfolding listed list_number term_of passed unstep advanced residual source17 predict updated updated_clip at_most1024 wrap32 low32
order_matters e = let z : ◌≡◌ {A = ℕ} 69 100 = ap (λ (l : List ℤ). nat_abs (get_or l 2 (pos 0))) e in omega arith

-- 17 passes
pub seventeen-by_numbers : Seventeen
unfolding listed list_number term_of passed step advanced sample source17 predict updated wrap32 low32
seventeen-by_numbers =
    record {
      over-sixteen = record {
        first-valid = refl;
        second-valid = refl;
        first-at_most_16 = omega arith;
        second-at_most_16 = omega arith;
        over_16 = omega arith;
        at_most_262144 = omega arith;
      };
      left-by-two = refl;
      left-by-one = refl;
    }
