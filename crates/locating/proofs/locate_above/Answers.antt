-- `locating::locate_above` meets its contract.
-- Assumes nothing.
use mathlib.Core.Path.{refl}
use native.Mathlib.Omega.{arith}
use Rattle.word_bits.proofs.LocateLaws.{located-third, located-many}
use Rattle.locating.proofs.locate_above.Goals as goal

pub returns-then-rest-third : goal.returns-then-rest-third
returns-then-rest-third c =
    record {
      lies = λ m v a. located-third m v _ _ _ _ a _ (omega arith) refl refl refl refl refl
          c.dec_median-m2.ensures;
    }

pub returns : goal.returns
returns c =
    record {
      lies = λ m v a. located-many m v _ _ _ _ a _ (omega arith) refl refl refl refl refl
          c.inc_median-m2.ensures;
    }
