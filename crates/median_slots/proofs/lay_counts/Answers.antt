-- `median_slots::lay_counts` meets its contract.
-- Assumes nothing.
use native.Mathlib.Omega.{arith}
use mathlib.Core.List.{[], ◌∷◌}
use Rattle.entropy.specs.Medians.{pair_of}
use Rattle.overlay.proofs.OverlayLaws.{overlay_two}
use Rattle.median_slots.specs.MedianSlots.{pair_slots}
use Rattle.median_slots.proofs.lay_counts.Goals as goal

pub returns : goal.returns
returns c =
    overlay_two c.args.slots.now _ _ 0 1 (c.args.bits ∷ []) (pair_slots (pair_of c.args.medians))
    (omega arith)
    (omega arith) c.lay.ensures
    c.lay_medians.ensures
