-- What a block's place in its recording asks of it, case by case.
-- Assumes nothing.
use mathlib.Core.Path.{◌≡◌, refl}
use mathlib.Core.Bool.{Bool, true, false, cond}
use mathlib.Core.List.{List}
use Prim.Native.Nat.{ℕ, zero, suc, ◌+◌, ◌-◌, ◌*◌, ◌≤◌, ◌<◌, min}
use native.Mathlib.Omega.{arith}
use borrow.Author.Tests.{ltb-true, ltb-false, leb-false}
use lib.Dec.{ltb}
use Rattle.archive.specs.Block.{number_at}
use Rattle.archive.specs.Faults.{announced_by, used_asked, finished}

module _ (announced before : ℕ) where
  -- what is left of a stream, or all the data bytes of a block
  pub asked-is : min (12 + announced - 504 * before) 504 ≡ used_asked announced before
  unfolding used_asked
  asked-is = go (ltb (12 + announced) (504 * (before + 1))) refl
    where
      go : (t : Bool) → ltb (12 + announced) (504 * (before + 1)) ≡ t
          → min (12 + announced - 504 * before) 504 ≡ cond t (12 + announced - 504 * before) 504
      go true e = omega (arith, ltb-true (12 + announced) (504 * (before + 1)) e)
      go false e = omega (arith, ltb-false (12 + announced) (504 * (before + 1)) e)

  -- never more
  pub asked-fits : used_asked announced before ≤ 504
  unfolding used_asked
  asked-fits = go (ltb (12 + announced) (504 * (before + 1))) refl
    where
      go : (t : Bool) → ltb (12 + announced) (504 * (before + 1)) ≡ t
          → cond t (12 + announced - 504 * before) 504 ≤ 504
      go true e = omega (arith, ltb-true (12 + announced) (504 * (before + 1)) e)
      go false e = omega arith

  -- a recording that does not end with a block goes on behind it
  pub next_within : finished announced before ≡ false → 504 * (before + 1) ≤ 12 + announced
  unfolding finished
  next_within e = omega (arith, leb-false (12 + announced) (504 * (before + 1)) e)

module _ (announced before : ℕ) (block : List ℕ) where
  -- the first block of a recording announces its payload length
  pub announced_first : before ≡ 0 → number_at block 12 4 ≡ announced_by announced before block
  unfolding announced_by
  announced_first z = rw z

  -- the others have that of the first
  pub announced_before : 0 < before → announced ≡ announced_by announced before block
  unfolding announced_by
  announced_before h = go before h
    where
      go : (k : ℕ) → 0 < k → announced ≡ announced_by announced k block
      go zero h = absurd (omega arith)
      go (suc k) h = refl
