-- The bytes of a head, read one by one.
-- Assumes nothing.
use mathlib.Core.Path.{◌≡◌, sym, ap, ◌∙◌}
use mathlib.Core.List.{List, [], ◌∷◌}
use Prim.Native.Nat.{ℕ, ◌+◌, ◌≤◌}
use native.Mathlib.Omega.{arith}
use lib.ListN.{length, get_or, take, drop}
use lib.Seq.{drop-drop, take-take}
use Rattle.little_endian.proofs.StoreLaws.{four-taken}

-- bytes that stand at a place of what is left of a file
module _ (file : List ℕ) (at w : ℕ) (long : at + w + 4 ≤ length file) where
  -- four of them
  pub four-there : take 4 (drop w (drop at file))
      ≡ get_or file (at + w) 0 ∷ get_or file (at + (w + 1)) 0 ∷ get_or file (at + (w + 2)) 0
      ∷ get_or file (at + (w + 3)) 0 ∷ []
  four-there =
      let one : at + (w + 1) ≡ at + w + 1 = omega arith in
      let two : at + (w + 2) ≡ at + w + 2 = omega arith in
      let three : at + (w + 3) ≡ at + w + 3 = omega arith in
      rw (drop-drop w at file, one, two, three) (four-taken file (at + w) long)

  -- and the first two
  pub two-there : take 2 (drop w (drop at file)) ≡ get_or file (at + w) 0 ∷ get_or file (at + (w + 1)) 0 ∷ []
  two-there = sym (take-take 2 4 (drop w (drop at file)) (omega arith)) ∙ ap (take 2) four-there
