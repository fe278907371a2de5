-- What is laid of an accepted entropy payload.
-- Assumes nothing.
use mathlib.Core.Path.{◌≡◌, ap, ◌∙◌}
use mathlib.Core.List.{List, ◌++◌}
use Prim.Native.Nat.{ℕ, ◌≤◌}
use native.Mathlib.Omega.{arith}
use lib.IntN.{ℤ}
use lib.ListN.{length}
use Rattle.entropy.specs.declared.EntropyInfo.{EntropyInfo}
use Rattle.entropy.specs.Entropy.{entropy_info, entropy_refusal}
use Rattle.overlay.specs.Overlay.{overlay}
use Rattle.overlay.proofs.OverlayLaws.{overlay_two}
use Rattle.slots.proofs.CallLaws.{Called, call-laid}
use Rattle.entropy_slots.specs.EntropySlots.{entropy_values}

-- an accepted entropy payload: three left medians, and the right ones behind them
pub entropy_laid : (p : List ℕ) (slots first after : List ℤ) (i : EntropyInfo)
    → 6 ≤ length slots → 0 ≡ entropy_refusal p → i ≡ entropy_info p → length i.medians_left ≡ 3
    → first ≡ overlay slots 0 i.medians_left → after ≡ overlay first 3 i.medians_right
    → Called 6 (entropy_refusal p) (entropy_values p) slots 0 after
entropy_laid p slots first after i h g j n e f =
    call-laid 6 (entropy_refusal p) (entropy_values p) slots after h g
    (overlay_two slots first after 0 3 i.medians_left i.medians_right
    (omega (arith, n)) (omega (arith, n)) e f
    ∙ ap (λ (x : EntropyInfo). overlay slots 0 (x.medians_left ++ x.medians_right)) j)
