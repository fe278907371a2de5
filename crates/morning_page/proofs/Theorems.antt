-- The page says what document 02 §5 asks (statements in specs/Morning.antt).
-- Assumes nothing.
use mathlib.Core.Path.{◌≡◌, refl, sym, ap, ap₂, ◌∙◌}
use mathlib.Core.List.{List, [], ◌∷◌, ◌++◌, append_assoc}
use Prim.Native.Nat.{ℕ, zero, suc, ◌+◌, ◌*◌, ◌≤◌, ◌<◌}
use native.Mathlib.Decide.{dec_lt}
use native.Mathlib.Omega.{arith}
use lib.IntN.{ℤ, pos}
use lib.ListN.{length, take, drop, get_or, length-append, length-take, length-drop}
use lib.Seq.{take_at, drop_at, take_all, drop-append-le, take-append-le, get_or-drop}
use lib.Signed.{mag}
use Rattle.answers.proofs.ListLaws.{frames_none}
use Rattle.overlay.proofs.OverlayLaws.{overlay_none, overlay_take}
use Rattle.decimal.specs.Column.{column, read_column}
use Rattle.decimal.proofs.ColumnLaws.{column-back}
use Rattle.page_block.specs.Sound.{lefts, rights, last_distance}
use Rattle.page_block.proofs.SoundLaws.{lefts_append, rights_append, lefts-none, rights-none, lefts-few}
use Rattle.page_block.proofs.SoundLaws.{rights-few}
use Rattle.page_block.proofs.SoundLaws.{left-peak-small, right-peak-small, clicks-few}
use Rattle.page_lines.specs.Page.{line_bytes, line_count, covered, earlier, line_peak, line_clicks, row, line}
use Rattle.page_lines.specs.Page.{lines, page}
use Rattle.page_lines.proofs.CountLaws.{lines-few}
use Rattle.page_lines.proofs.LineLaws.{Narrow, Widths, narrow_wide, row_widths, row-length}
use Rattle.morning_page.specs.Entry.{tell_page, page_entry}
use Rattle.morning_page.specs.Morning.{Recording, sum_of, ClicksSummed, LinesOf45, line_at, LinesStand}
use Rattle.morning_page.specs.Morning.{number_in, ColumnsHold, page_left, ReadBack, PageReadBack}
use Rattle.morning_page.specs.Morning.{EmptyPage}
use Rattle.morning_page.proofs.EntryLaws.{page-number, page-told}
use Rattle.morning_page.proofs.SumLaws.{sum-all}

-- ---- clicks, summed over the lines

pub clicks-summed : ClicksSummed
clicks-summed t samples e =
    (sum-all lefts lefts_append samples e t lefts-none, sum-all rights rights_append samples e t rights-none)

-- ---- a line

-- its numbers fit their columns
line-narrow : (t : ℕ) (samples : List ℤ) → Recording samples → (k : ℕ) → k < line_count (length samples)
    → Narrow k (line_peak lefts samples k) (line_peak rights samples k) (line_clicks t lefts samples k)
    (line_clicks t rights samples k)
line-narrow t samples r k h =
    let rest = drop (2048 * k) samples in
    let part = covered k samples in
    let small : (i : ℕ) → mag (get_or rest i (pos 0)) < 2147483648 =
    λ i. rw (get_or-drop (2048 * k) samples i (pos 0)) (r.bits_32 (2048 * k + i)) in
    let short = length-take 2048 rest in
    record {
      number = omega (arith, lines-few (length samples) r.few);
      left-peak = omega (arith, left-peak-small 2048 rest small);
      right-peak = omega (arith, right-peak-small 2048 rest small);
      left-clicks = omega (
        arith,
        clicks-few t (last_distance 0 (lefts (earlier k samples))) (lefts part),
        lefts-few part,
      );
      right-clicks = omega (
        arith,
        clicks-few t (last_distance 0 (rights (earlier k samples))) (rights part),
        rights-few part,
      );
    }

-- so they have their widths
line_widths : (t : ℕ) (samples : List ℤ) → Recording samples → (k : ℕ) → k < line_count (length samples)
    → Widths k (line_peak lefts samples k) (line_peak rights samples k) (line_clicks t lefts samples k)
    (line_clicks t rights samples k)
line_widths t samples r k h = row_widths _ _ _ _ _ (narrow_wide _ _ _ _ _ (line-narrow t samples r k h))

pub lines_of_45 : LinesOf45
unfolding line
lines_of_45 t samples r k h = row-length _ _ _ _ _ (line_widths t samples r k h)

-- ---- the page

-- the first k lines have 45 bytes each
lines-length : (t : ℕ) (samples : List ℤ) → Recording samples → (k : ℕ) → k ≤ line_count (length samples)
    → length (lines t samples k) ≡ line_bytes * k
unfolding lines
lines-length t samples r zero h = refl
lines-length t samples r (suc k) h =
    omega (
      arith,
      length-append (lines t samples k) (line t samples k),
      lines-length t samples r k
          (omega arith),
      lines_of_45 t samples r k (omega arith),
    )

-- line k stands after the k before it
line-stands : (t : ℕ) (samples : List ℤ) → Recording samples → (n k : ℕ) → n ≤ line_count (length samples)
    → k < n → line_at k (lines t samples n) ≡ line t samples k
unfolding lines
line-stands t samples r zero k h l = absurd (omega arith)
line-stands t samples r (suc n) k h l = go (dec_lt k n) (λ b. line-stands t samples r n k (omega arith) b)
  where
    before : k < n → line_at k (lines t samples n) ≡ line t samples k
        → line_at k (lines t samples n ++ line t samples n) ≡ line t samples k
    before b f =
        let long = lines-length t samples r n (omega arith) in
        ap (take line_bytes) (drop-append-le (line_bytes * k) (lines t samples n) (line t samples n)
        (omega arith))
        ∙ take-append-le line_bytes (drop (line_bytes * k) (lines t samples n)) (line t samples n)
        (omega (arith, length-drop (line_bytes * k) (lines t samples n))) ∙ f

    last : n ≡ k → line_at k (lines t samples n ++ line t samples n) ≡ line t samples k
    last e =
        ap (take line_bytes) (drop_at (lines t samples n) (line t samples n) (line_bytes * k)
        (lines-length t samples r n (omega arith) ∙ ap (λ (m : ℕ). line_bytes * m) e))
        ∙ take_all line_bytes (line t samples n) (omega (arith, lines_of_45 t samples r n (omega arith)))
        ∙ ap (line t samples) e

    go : Dec (k < n) → (k < n → line_at k (lines t samples n) ≡ line t samples k)
        → line_at k (lines t samples n ++ line t samples n) ≡ line t samples k
    go (yes b) f = before b (f b)
    go (no b) f = last (omega arith)

pub lines_stand : LinesStand
unfolding page
lines_stand t samples r =
    (lines-length t samples r _ (omega arith), λ k h. line-stands t samples r _ k (omega arith) h)

-- ---- numbers read back

-- a column at its place in a line
column-at : (first rest : List ℕ) (at width n : ℕ) → length first ≡ at → length (column width n) ≡ width
    → number_in (first ++ (column width n ++ rest)) at width ≡ n
column-at first rest at width n e w =
    ap (λ (text : List ℕ). read_column (take width text)) (drop_at first (column width n ++ rest) at e)
    ∙ ap read_column (take_at (column width n) rest width w) ∙ column-back width n

-- what stands before the last columns of a line
module _ (k lp rp lc rc : ℕ) (w : Widths k lp rp lc rc) where
  abbrev rest : List ℕ
  rest = column 8 lc ++ (column 8 rc ++ (10 ∷ []))

  abbrev first : List ℕ
  first = column 6 k ++ (column 11 lp ++ column 11 rp)

  first-length : length first ≡ 28
  first-length = simp length-append (omega (arith, w.number, w.left-peak, w.right-peak))

  row_is : row k lp rp lc rc ≡ first ++ rest
  unfolding row
  row_is = simp append_assoc

  -- the numbers of a line in their columns
  row_number : number_in (row k lp rp lc rc) 0 6 ≡ k
  unfolding row
  row_number = column-at [] _ 0 6 k refl w.number

  row-left-peak : number_in (row k lp rp lc rc) 6 11 ≡ lp
  unfolding row
  row-left-peak = column-at (column 6 k) _ 6 11 lp w.number w.left-peak

  row-right-peak : number_in (row k lp rp lc rc) 17 11 ≡ rp
  unfolding row
  row-right-peak =
      ap (λ (text : List ℕ). number_in text 17 11)
      (sym (append_assoc (column 6 k) (column 11 lp) (column 11 rp ++ rest)))
      ∙ column-at (column 6 k ++ column 11 lp) rest 17 11 rp
      (simp length-append (omega (arith, w.number, w.left-peak))) w.right-peak

  row-left-clicks : number_in (row k lp rp lc rc) 28 8 ≡ lc
  row-left-clicks = ap (λ (text : List ℕ). number_in text 28 8) row_is
      ∙ column-at first _ 28 8 lc first-length w.left-clicks

  row-right-clicks : number_in (row k lp rp lc rc) 36 8 ≡ rc
  row-right-clicks =
      ap (λ (text : List ℕ). number_in text 36 8)
      (row_is ∙ sym (append_assoc first (column 8 lc) (column 8 rc ++ (10 ∷ []))))
      ∙ column-at (first ++ column 8 lc) (10 ∷ []) 36 8 rc
      (length-append first (column 8 lc) ∙ omega (arith, first-length, w.left-clicks)) w.right-clicks

-- those of line k of any page
columns-hold : (t : ℕ) (samples : List ℤ) → Recording samples → (k : ℕ) → k < line_count (length samples)
    → ColumnsHold t samples k (line t samples k)
unfolding line
columns-hold t samples r k h =
    let w = line_widths t samples r k h in
    record {
      number = row_number _ _ _ _ _ w;
      left-peak = row-left-peak _ _ _ _ _ w;
      right-peak = row-right-peak _ _ _ _ _ w;
      left-clicks = row-left-clicks _ _ _ _ _ w;
      right-clicks = row-right-clicks _ _ _ _ _ w;
    }

-- two sums of the same numbers
sums_alike : (k : ℕ) (f g : ℕ → ℕ) → ((j : ℕ) → j < k → f j ≡ g j) → sum_of k f ≡ sum_of k g
unfolding sum_of
sums_alike zero f g e = refl
sums_alike (suc k) f g e =
    ap₂ (λ (a b : ℕ). a + b) (sums_alike k f g (λ j h. e j (omega arith))) (e k (omega arith))

-- what the page itself says
page-says : (t : ℕ) (samples : List ℤ) → Recording samples → ReadBack t samples (page t samples)
page-says t samples r =
    let hold : (k : ℕ) → k < line_count (length samples)
    → ColumnsHold t samples k (line_at k (page t samples)) =
    λ k h. rw ((lines_stand t samples r).1 k h) (columns-hold t samples r k h) in
    let sum = clicks-summed t samples r.whole_frames in
    record {
      columns = hold;
      left-clicks = sums_alike (line_count (length samples)) _ _ (λ k h. (hold k h).left-clicks) ∙ sum.0;
      right-clicks = sums_alike (line_count (length samples)) _ _ (λ k h. (hold k h).right-clicks) ∙ sum.1;
    }

-- ---- the entry

-- the page that an accepted call left is the page
left_is-page : (t : ℕ) (samples : List ℤ) (storage : List ℕ) → (page_entry t samples storage).refusal ≡ 0
    → page_left (page_entry t samples storage) ≡ page t samples
left_is-page t samples storage e =
    ap page_left (page-told t samples storage (sym (page-number t samples storage) ∙ e))
    ∙ overlay_take storage (page t samples)

pub page-read_back : PageReadBack
page-read_back t samples storage r e = rw (left_is-page t samples storage e) (page-says t samples r)

-- no frames have no lines
page-none : (t : ℕ) → page t [] ≡ []
unfolding page lines line_count
page-none t = refl

pub empty-page : EmptyPage
unfolding line_count
empty-page t storage =
    page-told t [] storage
    (frames_none 0 0 (length storage)
    (record { few = omega arith; whole_frames = refl; enough = omega arith }))
    ∙ ap (tell_page storage) (page-none t)
    ∙ ap (λ (bytes : List ℕ). record { refusal = 0; written = 0; bytes = bytes }) (overlay_none storage 0)
