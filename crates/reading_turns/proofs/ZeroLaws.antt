-- Zeros laid into a list one after another.
-- Assumes nothing.
use mathlib.Core.Path.{◌≡◌, ap, ◌∙◌}
use mathlib.Core.List.{List, [], ◌∷◌, ◌++◌, append_assoc}
use Prim.Native.Nat.{ℕ, suc, ◌+◌, ◌-◌, ◌≤◌, ◌<◌}
use native.Mathlib.Omega.{arith}
use lib.IntN.{ℤ, pos}
use lib.Seq.{length-take-le}
use lib.ListN.{length, take, drop, replicate, length-drop, set, length-replicate, replicate-append-replicate}
use Rattle.std.proofs.lemmas.List.{drop-drop}
use Rattle.overlay.specs.Overlay.{overlay}
use Rattle.overlay.proofs.OverlayLaws.{overlay_one, overlay_length, overlay_on}
use Rattle.reading_turns.specs.Zeros.{zeroed}

-- they leave the length
pub zeroed-length : (l : List ℤ) (i n : ℕ) → i + n ≤ length l → length (zeroed l i n) ≡ length l
zeroed-length l i n h = overlay_length l i (replicate n (pos 0)) (omega (arith, length-replicate n (pos 0)))

-- one more behind them
pub zeroed-next : (l : List ℤ) (i n : ℕ) → i + n < length l → set (zeroed l i n) (i + n) (pos 0) ≡ zeroed l i (suc n)
zeroed-next l i n h =
    let m : n + 1 ≡ suc n = omega arith in
    overlay_one (zeroed l i n) (i + n) (pos 0) (omega (arith, zeroed-length l i n (omega arith)))
    ∙ overlay_on l i (i + n) (replicate n (pos 0)) (pos 0 ∷ []) (omega arith) (omega (arith, length-replicate n (pos 0)))
    ∙ ap (overlay l i) (replicate-append-replicate n 1 (pos 0) ∙ ap (λ (k : ℕ). replicate k (pos 0)) m)

-- one in front of them
pub zeroed_first : (l : List ℤ) (i n : ℕ) → i < length l → zeroed (set l i (pos 0)) (i + 1) n ≡ zeroed l i (suc n)
zeroed_first l i n h =
    ap (λ (x : List ℤ). zeroed x (i + 1) n) (overlay_one l i (pos 0) h)
    ∙ overlay_on l i (i + 1) (pos 0 ∷ []) (replicate n (pos 0)) (omega arith) (omega arith)

-- the part from a place up to another holds zeros, and what stands before and behind it is kept
pub cleared : (l part : List ℤ) (i j : ℕ) → i ≤ j → j ≤ length l
    → part ≡ replicate (length (take (j - i) (drop i l))) (pos 0)
    → take i l ++ (part ++ drop (j - i) (drop i l)) ≡ zeroed l i (j - i)
unfolding overlay
cleared l part i j h k e =
    let n : length (take (j - i) (drop i l)) ≡ j - i =
    length-take-le (j - i) (drop i l) (omega (arith, length-drop i l)) in
    let m = length-replicate {A = ℤ} (j - i) (pos 0) in
    rw (e, n, m, drop-drop, append_assoc)
