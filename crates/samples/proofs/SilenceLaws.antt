-- A list of zeros, as programs lend one to reading.
-- Assumes nothing.
use mathlib.Core.Path.{◌≡◌, sym, ap, ◌∙◌}
use mathlib.Core.List.{List}
use Prim.Native.Nat.{ℕ, ◌+◌, ◌-◌, ◌≤◌}
use native.Mathlib.Omega.{arith}
use lib.IntN.{ℤ, pos}
use lib.ListN.{take, replicate, length-replicate, replicate-append-replicate}
use lib.Seq.{take_at}

-- so many zeros
abbrev pub zeros : ℕ → List ℤ
zeros n = replicate n (pos 0)

-- the first of many are fewer
pub take-zeros : (n m : ℕ) → n ≤ m → take n (zeros m) ≡ zeros n
take-zeros n m h =
    let e : n + (m - n) ≡ m = omega arith in
    ap (take n) (sym (replicate-append-replicate {A = ℤ} n (m - n) (pos 0) ∙ ap zeros e)) ∙ take_at (zeros n) (zeros (m - n)) n (length-replicate {A = ℤ} n (pos 0))
