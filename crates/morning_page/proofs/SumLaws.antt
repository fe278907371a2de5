-- The clicks of the lines, summed, are those of the whole recording.
-- Assumes nothing.
use mathlib.Core.Path.{◌≡◌, sym, ap, ◌∙◌}
use mathlib.Core.List.{List, []}
use Prim.Native.Nat.{ℕ, zero, suc, ◌+◌, ◌*◌, ◌%◌}
use native.Mathlib.Omega.{arith}
use lib.IntN.{ℤ}
use lib.ListN.{length}
use lib.Seq.{take_all}
use Rattle.page_block.specs.Sound.{clicks}
use Rattle.page_block.proofs.SoundLaws.{clicks_append}
use Rattle.page_lines.specs.Page.{line_count, covered, earlier, line_clicks}
use Rattle.page_lines.proofs.CountLaws.{lines_cover, Splits, channel-earlier}
use Rattle.morning_page.specs.Morning.{sum_of}

module _ (channel : List ℤ → List ℤ) (splits : Splits channel) (samples : List ℤ)
    (whole : length samples % 2 ≡ 0) where
  -- the clicks up to the next line
  clicks-earlier : (t k : ℕ)
      → clicks t 0 (channel (earlier (k + 1) samples))
      ≡ clicks t 0 (channel (earlier k samples)) + line_clicks t channel samples k
  clicks-earlier t k = ap (clicks t 0) (channel-earlier channel splits samples whole k)
      ∙ clicks_append t 0 (channel (earlier k samples)) (channel (covered k samples))

  -- those of the first k lines
  sum-earlier : (t k : ℕ) → channel [] ≡ []
      → sum_of k (line_clicks t channel samples) ≡ clicks t 0 (channel (earlier k samples))
  unfolding sum_of clicks
  sum-earlier t zero e = sym (ap (clicks t 0) e)
  sum-earlier t (suc k) e =
      let n : k + 1 ≡ suc k = omega arith in
      ap (λ (m : ℕ). m + line_clicks t channel samples k) (sum-earlier t k e) ∙ sym (clicks-earlier t k)
      ∙ ap (λ (m : ℕ). clicks t 0 (channel (earlier m samples))) n

  -- those of all of them
  pub sum-all : (t : ℕ) → channel [] ≡ []
      → sum_of (line_count (length samples)) (line_clicks t channel samples) ≡ clicks t 0 (channel samples)
  sum-all t e =
      sum-earlier t (line_count (length samples)) e
      ∙ ap (λ (s : List ℤ). clicks t 0 (channel s))
      (take_all (2048 * line_count (length samples)) samples (lines_cover (length samples) whole))
