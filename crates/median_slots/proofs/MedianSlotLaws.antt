-- The six numbers that the code lays, three of each set, are the medians of both sets.
-- Assumes nothing.
use mathlib.Core.Path.{◌≡◌, refl, ap₂, ◌∙◌}
use mathlib.Core.List.{List, [], ◌∷◌, ◌++◌}
use Prim.Native.Nat.{ℕ, ◌+◌, ◌≤◌}
use native.Mathlib.Omega.{arith}
use lib.ListN.{length, get_or}
use Rattle.entropy.specs.declared.AdaptiveMedians.{AdaptiveMedians}
use Rattle.entropy.specs.Medians.{pair_of}
use Rattle.overlay.specs.Overlay.{overlay}
use Rattle.overlay.proofs.OverlayLaws.{overlay_two}
use Rattle.word_state.proofs.StateLaws.{no_set, there}
use Rattle.median_slots.specs.MedianSlots.{pair_slots}

-- a list of three numbers
three : (l : List ℕ) → length l ≡ 3 → l ≡ get_or l 0 0 ∷ get_or l 1 0 ∷ get_or l 2 0 ∷ []
three [] h = absurd (omega arith)
three (a ∷ []) h = absurd (omega arith)
three (a ∷ b ∷ []) h = absurd (omega arith)
three (a ∷ b ∷ c ∷ []) h = refl
three (a ∷ b ∷ c ∷ d ∷ l) h = absurd (omega arith)

-- both sets, one behind the other
pub medians-laid : (ms : List AdaptiveMedians) (at : ℕ) (slots first after : List ℕ) → length ms ≡ 2 → at + 6 ≤ length slots
    → length (get_or ms 0 no_set).values ≡ 3 → length (get_or ms 1 no_set).values ≡ 3
    → first ≡ overlay slots at (get_or ms 0 no_set).values → after ≡ overlay first (at + 3) (get_or ms 1 no_set).values
    → after ≡ overlay slots at (pair_slots (pair_of ms))
medians-laid ms at slots first after n room l r e f =
    let left = (get_or ms 0 no_set).values in
    let right = (get_or ms 1 no_set).values in
    let laid = overlay_two slots first after at (at + 3) left right (omega arith) (omega (arith, l)) e f
    ∙ ap₂ (λ (v w : List ℕ). overlay slots at (v ++ w)) (three left l) (three right r) in
    rw (there ms 0 n (omega arith), there ms 1 n (omega arith)) at laid
