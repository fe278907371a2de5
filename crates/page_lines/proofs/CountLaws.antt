-- How many lines there are, the samples that a line covers, and those before them.
-- Assumes nothing.
use mathlib.Core.Path.{◌≡◌, sym, ap, ◌∙◌}
use mathlib.Core.List.{List, ◌++◌}
use Prim.Native.Nat.{ℕ, ◌+◌, ◌*◌, ◌%◌, ◌≤◌}
use native.Mathlib.Omega.{arith}
use lib.IntN.{ℤ}
use lib.ListN.{length, take, length-take}
use lib.Seq.{take-add}
use Rattle.answers.specs.Limits.{max_elements}
use Rattle.page_block.specs.Sound.{last_distance}
use Rattle.page_lines.specs.Page.{line_count, covered, earlier}
use Rattle.page_block.proofs.SoundLaws.{last_append}

-- ---- how many lines there are

-- the lines cover all whole frames
pub lines_cover : (elements : ℕ) → elements % 2 ≡ 0 → elements ≤ 2048 * line_count elements
unfolding line_count
lines_cover elements e = omega arith

-- no page has more than 128
pub lines-few : (elements : ℕ) → elements ≤ max_elements → line_count elements ≤ 128
unfolding line_count
lines-few elements h = omega arith

-- ---- the samples of a line

-- one line more is before the next
pub earlier_more : (samples : List ℤ) (k : ℕ)
    → earlier (k + 1) samples ≡ earlier k samples ++ covered k samples
earlier_more samples k =
    let e : 2048 * (k + 1) ≡ 2048 * k + 2048 = omega arith in
    ap (λ (n : ℕ). take n samples) e ∙ take-add (2048 * k) 2048 samples

-- they are whole frames
pub earlier-even : (samples : List ℤ) (k : ℕ) → length samples % 2 ≡ 0 → length (earlier k samples) % 2 ≡ 0
earlier-even samples k e = omega (arith, length-take (2048 * k) samples)

-- ---- a channel over the lines

-- a channel of two lists is that of the one and that of the other
abbrev pub Splits : (List ℤ → List ℤ) → Type 0
Splits channel = (a b : List ℤ) → length a % 2 ≡ 0 → channel (a ++ b) ≡ channel a ++ channel b

module _ (channel : List ℤ → List ℤ) (splits : Splits channel) (samples : List ℤ)
    (whole : length samples % 2 ≡ 0) where
  -- its samples before the next line
  pub channel-earlier : (k : ℕ)
      → channel (earlier (k + 1) samples) ≡ channel (earlier k samples) ++ channel (covered k samples)
  channel-earlier k = ap channel (earlier_more samples k)
      ∙ splits (earlier k samples) (covered k samples) (earlier-even samples k whole)

  -- the distance that the next line goes on from
  pub last-earlier : (k : ℕ)
      → last_distance (last_distance 0 (channel (earlier k samples))) (channel (covered k samples))
      ≡ last_distance 0 (channel (earlier (k + 1) samples))
  last-earlier k =
      sym (ap (last_distance 0) (channel-earlier k)
      ∙ last_append 0 (channel (earlier k samples)) (channel (covered k samples)))
