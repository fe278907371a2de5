-- Zeros, laid into a part of a list.
-- Assumes nothing.
use mathlib.Core.Path.{◌≡◌}
use mathlib.Core.List.{List, ◌++◌, append_assoc}
use Prim.Native.Nat.{ℕ, ◌-◌, ◌≤◌}
use native.Mathlib.Omega.{arith}
use lib.ListN.{length, take, drop, replicate, length-drop, length-replicate}
use lib.Seq.{length-take-le}
use Rattle.std.proofs.lemmas.List.{drop-drop}
use Rattle.overlay.specs.Overlay.{overlay}

-- the part from a place up to another holds zeros, and what stands before and behind it is kept
pub cleared : (list part : List ℕ) (from to : ℕ) → from ≤ to → to ≤ length list
    → part ≡ replicate (length (take (to - from) (drop from list))) 0
    → take from list ++ (part ++ drop (to - from) (drop from list))
    ≡ overlay list from (replicate (to - from) 0)
unfolding overlay
cleared list part from to h l e =
    let n : length (take (to - from) (drop from list)) ≡ to - from =
    length-take-le (to - from) (drop from list) (omega (arith, length-drop from list)) in
    let m = length-replicate {A = ℕ} (to - from) 0 in
    rw (e, n, m, drop-drop, append_assoc)
