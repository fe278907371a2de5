-- A pass and its 20 slots. Assumes nothing.
use mathlib.Core.Path.{◌≡◌, ap, ◌∙◌}
use mathlib.Core.List.{List, [], ◌∷◌, ◌++◌, append_assoc}
use native.Mathlib.Omega.{arith}
use lib.IntN.{ℤ}
use lib.ListN.{length, length-append}
use Rattle.passes.specs.declared.DecorrPass.{DecorrPass}
use Rattle.overlay.specs.Overlay.{overlay}
use Rattle.overlay.proofs.OverlayLaws.{overlay_length, overlay_on, overlay_whole}
use Rattle.made_slots.specs.MadeSlots.{pass_slots, slots_of}

-- four numbers laid into 20 slots leave 20
pub head-laid : (none head first : List ℤ) → first ≡ overlay none 0 head → length none ≡ pass_slots
    → length head ≡ 4 → length first ≡ pass_slots
head-laid none head first e n h = ap length e ∙ overlay_length none 0 head (omega arith) ∙ n

-- the 20 slots of a pass: four numbers, then the two histories
pub twenty : (p : DecorrPass) (head none first second third : List ℤ) → first ≡ overlay none 0 head
    → second ≡ overlay first 4 p.history_a → third ≡ overlay second 12 p.history_b
    → length none ≡ pass_slots
    → length p.history_a ≡ 8 → length p.history_b ≡ 8
    → head ≡ p.term ∷ p.delta ∷ p.weight_a ∷ p.weight_b ∷ [] → third ≡ slots_of p
unfolding slots_of
twenty p head none first second third e f g n la lb h =
    let a = p.history_a in
    let b = p.history_b in
    let four : length head ≡ 4 = ap length h in
    let twelve : length (head ++ a) ≡ 12 = rw (length-append head a, four, la) in
    let all : length ((head ++ a) ++ b) ≡ length none = rw (length-append (head ++ a) b, twelve, lb, n) in
    g ∙ rw (f, e, overlay_on none 0 4 head a (omega arith) (omega arith), overlay_on none 0 12 (head ++ a) b (omega arith) (omega arith), overlay_whole none ((head ++ a) ++ b) all, append_assoc head a b, h)
