-- What the walk over a block of frames finds. It holds of the sample before only whether it is loud,
-- which is all that a click asks of it (Q5.3, Q5.4; `rises_are_clicks`).
-- Assumes nothing.
-- ---- for the code alone
use Rattle.std.specs.Prelude.{◌≡◌, cond, List, [], ◌∷◌, ℕ, ◌+◌, ◌/◌, ◌%◌, ◌≤◌, ltb, ℤ, nat_abs}
use Rattle.page_block.specs.Sound.{lefts, rights, peak}
use Rattle.page_block.specs.declared.Block.{Block}

-- 1 where a number exceeds another, 0 else: a distance the threshold, for a loud sample, and one of
-- these the one before it, where a loud sample follows one that is not
unfoldable pub exceeds : ℕ → ℕ → ℕ
exceeds number other = cond (ltb other number) 1 0

-- 1 where a sample is loud, 0 else
abbrev pub is_loud : ℕ → ℤ → ℕ
is_loud threshold v = exceeds (nat_abs v) threshold

-- the rises among samples of a channel, after one that is loud or not
unfoldable pub rises : ℕ → ℕ → List ℤ → ℕ
rises threshold previous [] = 0
rises threshold previous (v ∷ vs) =
    exceeds (is_loud threshold v) previous + rises threshold (is_loud threshold v) vs

-- whether the last of them is loud, or where there are none the one before them
unfoldable pub last_loud_of : ℕ → ℕ → List ℤ → ℕ
last_loud_of threshold previous [] = previous
last_loud_of threshold previous (v ∷ vs) = last_loud_of threshold (is_loud threshold v) vs

-- the flags of both stems in one number, the right one's in the high half
pub record Flags (both : ℕ) : Type 0 where
  pub left : both % 65536 ≤ 1
  pub right : both / 65536 ≤ 1

-- the numbers of the block's line, after samples that are loud or not, and what the next block goes
-- on from
pub record Heard (threshold before : ℕ) (samples : List ℤ) (r : Block) : Type 0 where
  pub left-peak : r.left_peak ≡ peak (lefts samples)
  pub right-peak : r.right_peak ≡ peak (rights samples)
  pub left-clicks : r.left_clicks ≡ rises threshold (before % 65536) (lefts samples)
  pub right-clicks : r.right_clicks ≡ rises threshold (before / 65536) (rights samples)
  pub flags : Flags r.last_loud
  pub left_loud : r.last_loud % 65536 ≡ last_loud_of threshold (before % 65536) (lefts samples)
  pub right_loud : r.last_loud / 65536 ≡ last_loud_of threshold (before / 65536) (rights samples)
