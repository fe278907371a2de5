-- The numbers of specs/Example.antt, computed from the definitions. Assumes nothing.
use mathlib.Core.Path.{refl}
use Rattle.wrapping.specs.Wrap.{wrap32, low32}
use Rattle.weights.specs.Weights.{predict, sample, source17, updated}
use Rattle.passes.specs.Terms.{term_of}
use Rattle.passes.specs.Step.{step, advanced}
use Rattle.passes.specs.Run.{passed}
use Rattle.list_tests.specs.Tests.{list_number}
use Rattle.decorrelation.specs.Lists.{listed}
use Rattle.cut_buffers.specs.Example.{AfterOneFrame, WithoutLag, AfterFourFrames, AfterEightFrames}

-- Q10.3
pub after-one_frame : AfterOneFrame
unfolding listed list_number term_of passed step advanced sample predict updated wrap32 low32
after-one_frame = record { in_one_call_lem = refl; first_part_lem = refl; second_part_lem = refl }

-- Q10.2
pub without_lag : WithoutLag
unfolding listed list_number term_of passed step advanced sample source17 predict updated wrap32 low32
without_lag = record { in_one_call_lem = refl; second_part_lem = refl }

-- Q10.3
pub after-four_frames : AfterFourFrames
unfolding listed list_number term_of passed step advanced sample predict updated wrap32 low32
after-four_frames = record { in_one_call_lem = refl; in_two_lem = refl }

-- Q10.1
pub after-eight_frames : AfterEightFrames
unfolding listed list_number term_of passed step advanced sample predict updated wrap32 low32
after-eight_frames = record { in_one_call_lem = refl; second_part_lem = refl }
