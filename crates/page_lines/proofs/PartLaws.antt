-- The samples of a line, as parts of the list one after the other.
-- Assumes nothing.
use mathlib.Core.Path.{◌≡◌, sym, ap, ap₂, ◌∙◌}
use mathlib.Core.List.{List, ◌++◌}
use Prim.Native.Nat.{ℕ, ◌+◌, ◌*◌, ◌%◌, ◌≤◌, ◌<◌, min}
use native.Mathlib.Omega.{arith}
use lib.IntN.{ℤ}
use lib.ListN.{length, take, drop, length-drop}
use lib.Seq.{drop-drop}
use Rattle.std.proofs.lemmas.List.{take_min, drop_min}
use Rattle.std.proofs.Math.Seq.{take-append_seam, drop-append_seam}
use Rattle.page_lines.specs.Page.{line_count, covered}

-- the parts that are left are those behind the first k lines
pub record Left (samples : List ℤ) (k size : ℕ) (rest : List ℤ) : Type 0 where
  pub size_is : size ≡ 2048
  pub rest_is : rest ≡ drop (2048 * k) samples

module _ (samples : List ℤ) (k size : ℕ) (rest : List ℤ) (left : Left samples k size rest) where
  -- a line begins where samples are left
  pub line_left : length samples % 2 ≡ 0 → 0 < length rest → k < line_count (length samples)
  unfolding line_count
  line_left whole some = omega (arith, ap length left.rest_is, length-drop (2048 * k) samples)

  -- and all are there where none is
  pub none-left : length rest ≡ 0 → line_count (length samples) ≤ k
  unfolding line_count
  none-left none = omega (arith, ap length left.rest_is, length-drop (2048 * k) samples)

  module _ (part after : List ℤ) (cuts : rest ≡ part ++ after) (long : length part ≡ min size (length rest)) where
    long-is : length part ≡ min 2048 (length (part ++ after))
    long-is = long ∙ ap₂ (λ (n : ℕ) (l : List ℤ). min n (length l)) left.size_is cuts

    whole-is : part ++ after ≡ drop (2048 * k) samples
    whole-is = sym cuts ∙ left.rest_is

    -- the next part is the next line's
    pub part-is : part ≡ covered k samples
    part-is = sym (take-append_seam part after) ∙ ap (λ (m : ℕ). take m (part ++ after)) long-is
        ∙ take_min 2048 (part ++ after) ∙ ap (take 2048) whole-is

    -- and the others are behind it
    pub left_more : (n next : ℕ) → n ≡ size → next ≡ k + 1 → Left samples next n after
    left_more n next e f =
        let g : 2048 * k + 2048 ≡ 2048 * next = omega arith in
        record {
          size_is = e ∙ left.size_is;
          rest_is = sym (drop-append_seam part after) ∙ ap (λ (m : ℕ). drop m (part ++ after)) long-is
              ∙ drop_min 2048 (part ++ after) ∙ ap (drop 2048) whole-is ∙ drop-drop 2048 (2048 * k) samples
              ∙ ap (λ (m : ℕ). drop m samples) g;
        }
