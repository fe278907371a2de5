-- The lines of the page, laid one after the other.
-- Assumes nothing.
use mathlib.Core.Path.{◌≡◌, refl, ap, ◌∙◌}
use mathlib.Core.List.{List, [], ◌∷◌, ◌++◌, append_assoc}
use Prim.Native.Nat.{ℕ, suc, ◌+◌, ◌*◌, ◌/◌, ◌%◌, ◌≤◌, ◌<◌}
use native.Mathlib.Omega.{arith}
use lib.IntN.{ℤ}
use lib.ListN.{length, length-append}
use Rattle.decimal.specs.Column.{column}
use Rattle.decimal.specs.Decimal.{decimal}
use Rattle.decimal.specs.TextPut.{TextPut}
use Rattle.decimal.proofs.ColumnLaws.{column-length}
use Rattle.decimal.proofs.DecimalLaws.{decimal-short}
use Rattle.decimal.proofs.PutLaws.{put-none, put_on}
use Rattle.page_block.specs.Heard.{exceeds, rises, last_loud_of, Flags, Heard}
use Rattle.page_lines.specs.Page.{line_bytes, line_count, covered, earlier, line_clicks, row, line, lines}
use Rattle.page_lines.specs.Page.{page}
use Rattle.page_block.specs.Sound.{lefts, rights, last_distance}
use Rattle.page_block.specs.declared.Block.{Block}
use Rattle.page_lines.proofs.CountLaws.{Splits, last-earlier}
use Rattle.page_block.proofs.HearLaws.{flags_are}
use Rattle.page_block.proofs.RiseLaws.{rises_are_clicks, last-is_loud, none_loud}
use Rattle.page_block.proofs.SoundLaws.{lefts_append, rights_append}

-- ---- one line

-- a line in its parts: the number, the peaks, the clicks and the newline
pub row_put : {a b c d e : List ℕ} {at p q r s : ℕ} (k lp rp lc rc : ℕ) → at ≤ length a
    → TextPut a b at p (column 6 k) → TextPut b c p q (column 11 lp ++ column 11 rp)
    → TextPut c d q r (column 8 lc ++ column 8 rc) → TextPut d e r s (10 ∷ [])
    → TextPut a e at s (row k lp rp lc rc)
unfolding row
row_put k lp rp lc rc h x y z n = simp append_assoc at (put_on h (put_on h (put_on h x y) z) n)

-- the numbers of a line that their columns hold
pub record Narrow (k lp rp lc rc : ℕ) : Type 0 where
  pub number : k < 1000000
  pub left-peak : lp < 100000000000
  pub right-peak : rp < 100000000000
  pub left-clicks : lc < 100000000
  pub right-clicks : rc < 100000000

-- each number is no wider than its column
pub record Wide (k lp rp lc rc : ℕ) : Type 0 where
  pub number : length (decimal k) ≤ 6
  pub left-peak : length (decimal lp) ≤ 11
  pub right-peak : length (decimal rp) ≤ 11
  pub left-clicks : length (decimal lc) ≤ 8
  pub right-clicks : length (decimal rc) ≤ 8

pub narrow_wide : (k lp rp lc rc : ℕ) → Narrow k lp rp lc rc → Wide k lp rp lc rc
narrow_wide k lp rp lc rc n = record {
  number = decimal-short 5 k (omega (arith, n.number));
  left-peak = decimal-short 10 lp (omega (arith, n.left-peak));
  right-peak = decimal-short 10 rp (omega (arith, n.right-peak));
  left-clicks = decimal-short 7 lc (omega (arith, n.left-clicks));
  right-clicks = decimal-short 7 rc (omega (arith, n.right-clicks));
}

-- so each column has its width
pub record Widths (k lp rp lc rc : ℕ) : Type 0 where
  pub number : length (column 6 k) ≡ 6
  pub left-peak : length (column 11 lp) ≡ 11
  pub right-peak : length (column 11 rp) ≡ 11
  pub left-clicks : length (column 8 lc) ≡ 8
  pub right-clicks : length (column 8 rc) ≡ 8

pub row_widths : (k lp rp lc rc : ℕ) → Wide k lp rp lc rc → Widths k lp rp lc rc
row_widths k lp rp lc rc w = record {
  number = column-length 6 k w.number;
  left-peak = column-length 11 lp w.left-peak;
  right-peak = column-length 11 rp w.right-peak;
  left-clicks = column-length 8 lc w.left-clicks;
  right-clicks = column-length 8 rc w.right-clicks;
}

-- and the line 45 bytes
pub row-length : (k lp rp lc rc : ℕ) → Widths k lp rp lc rc → length (row k lp rp lc rc) ≡ line_bytes
unfolding row
row-length k lp rp lc rc w =
    simp length-append
    (omega (arith, w.number, w.left-peak, w.right-peak, w.left-clicks, w.right-clicks))

-- ---- all of them

-- a line more
pub lines_more : (t : ℕ) (samples : List ℤ) (k : ℕ)
    → lines t samples (k + 1) ≡ lines t samples k ++ line t samples k
unfolding lines
lines_more t samples k = let e : k + 1 ≡ suc k = omega arith in ap (lines t samples) e

-- the first k lines of the page are laid, and it is known whether each channel is loud before the next
pub record Laid (t : ℕ) (samples : List ℤ) (before after : List ℕ) (place last k : ℕ) : Type 0 where
  pub text : TextPut before after 0 place (lines t samples k)
  pub place_is : place ≡ line_bytes * k
  pub flags : Flags last
  pub left_is : last % 65536 ≡ exceeds (last_distance 0 (lefts (earlier k samples))) t
  pub right_is : last / 65536 ≡ exceeds (last_distance 0 (rights (earlier k samples))) t
  pub here : k ≤ line_count (length samples)
  pub kept : length after ≡ length before

module _ (t : ℕ) (samples : List ℤ) (before : List ℕ) where
  -- none of them
  pub laid_none : Laid t samples before before 0 0 0
  unfolding lines lefts rights last_distance
  laid_none = record {
    text = put-none before 0;
    place_is = omega arith;
    flags = flags_are 0 0 (omega arith) (omega arith);
    left_is = none_loud t;
    right_is = none_loud t;
    here = omega arith;
    kept = refl;
  }

  -- what the next line goes on from
  next-is : (channel : List ℤ → List ℤ) → Splits channel → length samples % 2 ≡ 0 → (flag next k : ℕ)
      → flag ≡ exceeds (last_distance 0 (channel (earlier k samples))) t
      → next ≡ last_loud_of t flag (channel (covered k samples))
      → next ≡ exceeds (last_distance 0 (channel (earlier (k + 1) samples))) t
  next-is channel splits whole flag next k e f =
      f ∙ ap (λ (n : ℕ). last_loud_of t n (channel (covered k samples))) e
      ∙ last-is_loud t (last_distance 0 (channel (earlier k samples))) (channel (covered k samples))
      ∙ ap (λ (d : ℕ). exceeds d t) (last-earlier channel splits samples whole k)

  -- the clicks that were found are the line's
  clicks-is : (channel : List ℤ → List ℤ) (flag count k : ℕ)
      → flag ≡ exceeds (last_distance 0 (channel (earlier k samples))) t
      → count ≡ rises t flag (channel (covered k samples))
      → count ≡ line_clicks t channel samples k
  clicks-is channel flag count k e f =
      f ∙ ap (λ (n : ℕ). rises t n (channel (covered k samples))) e
      ∙ rises_are_clicks t (last_distance 0 (channel (earlier k samples))) (channel (covered k samples))

  -- the line that was laid is the page's
  line-is : (last k : ℕ) (b : Block) → last % 65536 ≡ exceeds (last_distance 0 (lefts (earlier k samples))) t
      → last / 65536 ≡ exceeds (last_distance 0 (rights (earlier k samples))) t
      → Heard t last (covered k samples) b
      → row k b.left_peak b.right_peak b.left_clicks b.right_clicks ≡ line t samples k
  unfolding line
  line-is last k b l r h =
      rw (
        h.left-peak,
        h.right-peak,
        clicks-is lefts (last % 65536) b.left_clicks k l h.left-clicks,
        clicks-is rights (last / 65536) b.right_clicks k r h.right-clicks,
      )

  -- one line more
  pub laid_more : (mid after : List ℕ) (place next last k : ℕ) (b : Block) → length samples % 2 ≡ 0
      → k < line_count (length samples)
      → Laid t samples before mid place last k → Heard t last (covered k samples) b
      → TextPut mid after place next
      (row k b.left_peak b.right_peak b.left_clicks b.right_clicks)
      → next ≡ place + line_bytes → length after ≡ length mid
      → Laid t samples before after next b.last_loud (k + 1)
  laid_more mid after place next last k b whole h l x w n q =
      let m = l.place_is in
      record {
        text = rw (line-is last k b l.left_is l.right_is x, ← lines_more t samples k)
            at (put_on (omega arith) l.text w);
        place_is = omega arith;
        flags = x.flags;
        left_is = next-is lefts lefts_append whole (last % 65536) (b.last_loud % 65536) k l.left_is
            x.left_loud;
        right_is = next-is rights rights_append whole (last / 65536) (b.last_loud / 65536) k l.right_is
            x.right_loud;
        here = omega arith;
        kept = q ∙ l.kept;
      }

  -- all of them
  pub laid-all : (after : List ℕ) (place last k : ℕ) → line_count (length samples) ≤ k
      → Laid t samples before after place last k
      → TextPut before after 0 place (page t samples) × (place ≡ line_bytes * line_count (length samples))
  unfolding page
  laid-all after place last k h l =
      let e : k ≡ line_count (length samples) = omega (arith, l.here) in
      (rw e at l.text, omega (arith, l.place_is))
