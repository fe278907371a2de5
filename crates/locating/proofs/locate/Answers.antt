-- `locating::locate` meets its contract.
-- Assumes nothing.
use mathlib.Core.Path.{refl}
use native.Mathlib.Omega.{arith}
use Rattle.entropy.specs.Medians.{medians_of}
use Rattle.word_bits.proofs.LocateLaws.{located-first, located-second}
use Rattle.locating.proofs.locate.Goals as goal

pub returns-then-magnitude-first : goal.returns-then-magnitude-first
returns-then-magnitude-first c =
    located-first (medians_of c.args.medians) c.args.magnitude _ c.requires.medians (omega arith)
    (omega arith) refl refl refl c.dec_median-m0.ensures refl refl

pub returns-then-past-second : goal.returns-then-past-second
returns-then-past-second c =
    located-second (medians_of c.args.medians) c.args.magnitude _ c.requires.medians (omega arith)
    (omega arith) (omega arith) refl refl refl c.inc_median-m0.ensures
    c.dec_median-m1.ensures refl
