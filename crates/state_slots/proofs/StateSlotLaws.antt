-- A flag out of a slot, and a state laid into slots.
-- Assumes nothing.
use mathlib.Core.Path.{◌≡◌, refl, ◌∙◌}
use mathlib.Core.Bool.{Bool, true, false, not}
use mathlib.Core.List.{List, [], ◌∷◌, ◌++◌}
use Prim.Native.Nat.{ℕ, zero, suc}
use native.Mathlib.Omega.{arith}
use lib.Dec.{eqb, eqb-suc-zero}
use lib.ListN.{length}
use Rattle.std.specs.Int.{from_bool}
use Rattle.bits.specs.Bits.{val}
use Rattle.median_slots.specs.MedianSlots.{pair_slots}
use Rattle.overlay.specs.Overlay.{overlay}
use Rattle.overlay.proofs.OverlayLaws.{overlay_two}
use Rattle.word_state.specs.State.{State}
use Rattle.word_state.specs.View.{bits_read_of}
use Rattle.state_slots.specs.StateSlots.{is_set, bits_slots, state_slots}

-- the code's test of a flag
pub set_is : (n : ℕ) → not (eqb n 0) ≡ is_set n
set_is zero = refl
set_is (suc n) = rw (eqb-suc-zero n)

-- a flag as the code's conversion makes a number of it
flag-is : (b : Bool) → from_bool b ≡ val b
flag-is true = refl
flag-is false = refl

-- both totals are the two numbers of an array
pub totals-two : (l : List ℕ) → length l ≡ 2 → l ≡ bits_slots (bits_read_of l)
totals-two [] h = absurd (omega arith)
totals-two (a ∷ []) h = absurd (omega arith)
totals-two (a ∷ b ∷ []) h = refl
totals-two (a ∷ b ∷ c ∷ l) h = absurd (omega arith)

-- a state is its first seven slots, then its medians and then its totals
pub state-laid : (place a b c d : ℕ) (s : State) (totals slots first second after : List ℕ)
    → a ≡ from_bool s.last_zero → b ≡ from_bool s.last_one → c ≡ from_bool s.run_break → d ≡ from_bool s.ever_run
    → first ≡ overlay slots 0 (place ∷ s.channel ∷ a ∷ b ∷ s.debt ∷ c ∷ d ∷ [])
    → second ≡ overlay first 7 (pair_slots (record { left = s.left; right = s.right }))
    → totals ≡ bits_slots s.bits_read → after ≡ overlay second 13 totals → after ≡ overlay slots 0 (state_slots place s)
state-laid place a b c d s totals slots first second after ea eb ec ed e f t g =
    let head = place ∷ s.channel ∷ val s.last_zero ∷ val s.last_one ∷ s.debt ∷ val s.run_break
    ∷ val s.ever_run ∷ [] in
    let pair = pair_slots (record { left = s.left; right = s.right }) in
    let two = overlay_two slots first second 0 7 head pair (omega arith) (omega arith)
    (rw (ea ∙ flag-is s.last_zero, eb ∙ flag-is s.last_one, ec ∙ flag-is s.run_break, ed ∙ flag-is s.ever_run) at e) f in
    overlay_two slots second after 0 13 (head ++ pair) (bits_slots s.bits_read) (omega arith)
    (omega arith) two (rw t at g)
