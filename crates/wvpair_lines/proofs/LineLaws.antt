-- The lines of a list of samples, laid two samples at a time.
-- Assumes nothing.
use mathlib.Core.Path.{◌≡◌, refl, sym, ap, ◌∙◌}
use native.Mathlib.Decide.{dec_lt}
use mathlib.Core.List.{List, [], ◌∷◌, ◌++◌, append_assoc, append-nil}
use Prim.Native.Nat.{ℕ, suc, ◌+◌, ◌*◌, ◌≤◌, ◌<◌}
use native.Mathlib.Numerals.{add-one}
use native.Mathlib.Omega.{arith}
use lib.IntN.{ℤ, pos}
use lib.ListN.{length, drop, get_or, length-append, length-drop}
use lib.Seq.{drop-cons}
use Rattle.decimal.specs.Decimal.{decimal}
use Rattle.wvpair_lines.specs.Signed.{signed_decimal}
use Rattle.wvpair_lines.specs.Lines.{frame_line, frame_lines, end_word, bits_word, end_line}
use Rattle.decimal.specs.TextPut.{TextPut}
use Rattle.decimal.proofs.DecimalLaws.{decimal-short}
use Rattle.decimal.proofs.PutLaws.{put-none, put_on}

-- a frame's line in its four parts
pub frame-put : {a b c d e : List ℕ} {at p q r s : ℕ} (left right : ℤ) → at ≤ length a
    → TextPut a b at p (signed_decimal left) → TextPut b c p q (32 ∷ [])
    → TextPut c d q r (signed_decimal right) → TextPut d e r s (10 ∷ [])
    → TextPut a e at s (frame_line left right)
unfolding frame_line
frame-put left right h w x y z = simp append_assoc at (put_on h (put_on h (put_on h w x) y) z)

-- the `end` line in its five parts
pub end-put : {a b c d e f : List ℕ} {at p q r s t : ℕ} (refusal bits : ℕ) → at ≤ length a
    → TextPut a b at p end_word → TextPut b c p q (decimal refusal) → TextPut c d q r bits_word
    → TextPut d e r s (decimal bits) → TextPut e f s t (10 ∷ [])
    → TextPut a f at t (end_line refusal bits)
unfolding end_line
end-put refusal bits h v w x y z = simp append_assoc at (put_on h (put_on h (put_on h (put_on h v w) x) y) z)

-- the `end` line is 11 bytes and its two numbers
pub end-length : (refusal bits : ℕ)
    → length (end_line refusal bits) ≡ 11 + length (decimal refusal) + length (decimal bits)
unfolding end_line
end-length refusal bits =
    omega (
      arith,
      length-append (decimal refusal) (bits_word ++ (decimal bits ++ (10 ∷ []))),
      length-append
          (decimal bits) (10 ∷ []),
    )

-- with a refusal of one digit and bits of six, or two digits where no bit was used, it is at most 18
-- bytes
pub end_short : (refusal bits : ℕ) → refusal < 100 → (6 < refusal → bits ≡ 0) → bits < 1000000
    → length (end_line refusal bits) ≤ 18
end_short refusal bits h none k = go (dec_lt 6 refusal)
  where
    go : Dec (6 < refusal) → length (end_line refusal bits) ≤ 18
    go (yes long) = omega (
      arith,
      end-length refusal bits,
      decimal-short 1 refusal h,
      decimal-short 0 bits
          (omega (arith, none long)),
    )
    go (no short) = omega (
      arith,
      end-length refusal bits,
      decimal-short 0 refusal (omega arith),
      decimal-short 5 bits
          (omega arith),
    )

-- the lines of two samples and more: theirs, and those behind them
lines_more : (left right : ℤ) (rest : List ℤ)
    → frame_lines (left ∷ right ∷ rest) ≡ frame_line left right ++ frame_lines rest
unfolding frame_lines
lines_more left right rest = refl

-- fewer than two samples have no line
lines_none : (samples : List ℤ) → length samples < 2 → frame_lines samples ≡ []
unfolding frame_lines
lines_none [] h = refl
lines_none (left ∷ []) h = refl
lines_none (left ∷ right ∷ rest) h = absurd (omega arith)

-- the lines from a place on: that of the frame there, and those behind it
lines-on : (samples : List ℤ) (i : ℕ) → i + 1 < length samples
    → frame_lines (drop i samples)
    ≡ frame_line (get_or samples i (pos 0)) (get_or samples (i + 1) (pos 0))
    ++ frame_lines (drop (i + 2) samples)
lines-on samples i h =
    let left = get_or samples i (pos 0) in
    let right = get_or samples (i + 1) (pos 0) in
    let e : suc (i + 1) ≡ i + 2 = omega arith in
    let second : drop (i + 1) samples ≡ right ∷ drop (i + 2) samples = drop-cons samples (i + 1) (pos 0) h
    ∙ ap (λ (n : ℕ). right ∷ drop n samples) e in
    let first : drop i samples ≡ left ∷ drop (i + 1) samples =
    rw add-one (drop-cons samples i (pos 0) (omega arith)) in
    ap frame_lines (first ∙ ap (λ (l : List ℤ). left ∷ l) second)
    ∙ lines_more left right (drop (i + 2) samples)

-- the lines of the first i samples are laid, and those of the others are still to come
pub record Printed (before after : List ℕ) (at place : ℕ) (samples : List ℤ) (i : ℕ) : Type 0 where
  pub done : List ℕ
  pub put_is : TextPut before after at place done
  pub whole : done ++ frame_lines (drop i samples) ≡ frame_lines samples
  pub short : place ≤ at + 12 * i
  pub within : i ≤ length samples
  pub kept : length after ≡ length before

-- before the first frame
pub printed-none : (buf : List ℕ) (at : ℕ) (samples : List ℤ) → Printed buf buf at at samples 0
printed-none buf at samples =
    record {
      done = [];
      put_is = put-none buf at;
      whole = refl;
      short = omega arith;
      within = omega arith;
      kept = refl;
    }

-- one frame more
pub printed-more : {before mid after : List ℕ} {at place next : ℕ} {samples : List ℤ} {i : ℕ}
    → at ≤ length before → i + 1 < length samples → Printed before mid at place samples i
    → TextPut mid after place next (frame_line (get_or samples i (pos 0)) (get_or samples (i + 1) (pos 0)))
    → next ≤ place + 24 → length after ≡ length mid
    → Printed before after at next samples (i + 2)
printed-more {samples = samples} {i} h l p w n k = record {
  done = p.done ++ frame_line (get_or samples i (pos 0)) (get_or samples (i + 1) (pos 0));
  put_is = put_on h p.put_is w;
  whole =
      append_assoc p.done (frame_line (get_or samples i (pos 0)) (get_or samples (i + 1) (pos 0)))
      (frame_lines (drop (i + 2) samples))
      ∙ ap (λ (t : List ℕ). p.done ++ t) (sym (lines-on samples i l)) ∙ p.whole;
  short = omega arith;
  within = omega arith;
  kept = k ∙ p.kept;
}

-- fewer than two samples are left
pub printed-all : {before after : List ℕ} {at place : ℕ} {samples : List ℤ} {i : ℕ}
    → length samples ≤ i + 1 → Printed before after at place samples i
    → TextPut before after at place (frame_lines samples)
printed-all {before} {after} {at} {place} {samples} {i} h p =
    let e : p.done ≡ frame_lines samples =
    sym (append-nil p.done)
    ∙ ap (λ (t : List ℕ). p.done ++ t)
    (sym (lines_none (drop i samples) (omega (arith, length-drop i samples)))) ∙ p.whole in
    rw e at p.put_is
