-- The laws of seeds: what stands in a seeded history. Assumes nothing.
use mathlib.Core.Path.{◌≡◌}
use mathlib.Core.List.{List, ◌++◌, reverse}
use Prim.Native.Nat.{ℕ, min}
use native.Mathlib.Omega.{arith}
use lib.IntN.{ℤ, pos}
use lib.ListN.{length, take, drop, replicate, length-reverse, length-take}
use Rattle.std.proofs.lemmas.List.{take_min, take_at, drop_at, drop-replicate}
use Rattle.passes.specs.Making.{padded}

module _ (count : ℕ) (seed s : List ℤ) (n : ℕ) (e : n ≡ min count (length seed)) (f : s ≡ take n seed) where
  all-taken : take n seed ≡ take count seed
  all-taken = rw e (take_min count seed)

  taken : length s ≡ n
  taken = rw (f, length-take n seed) (omega arith)

  -- in order, with zeros behind
  pub placed : s ++ drop n (replicate 8 (pos 0)) ≡ padded (take count seed)
  placed = rw (f, all-taken, drop-replicate n 8 (pos 0), length-take count seed, ← e)

  -- in reverse
  pub placed-reversed : (r : List ℤ) → r ≡ reverse (take n (s ++ drop n (replicate 8 (pos 0))))
      → r ++ drop n (s ++ drop n (replicate 8 (pos 0))) ≡ padded (reverse (take count seed))
  placed-reversed r g =
      rw (g, take_at s _ n taken, drop_at s _ n taken, f, all-taken, drop-replicate n 8 (pos 0), length-reverse (take count seed), length-take count seed, ← e)
