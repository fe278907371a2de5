-- The blocks of a stream, laid one behind the other.
-- Assumes nothing.
use mathlib.Core.Path.{◌≡◌, refl, sym, ap, ◌∙◌}
use mathlib.Core.List.{List, [], ◌∷◌, ◌++◌, append-nil}
use Prim.Native.Nat.{ℕ, ◌+◌, ◌*◌, ◌≤◌}
use native.Mathlib.Nat.{zero-add}
use native.Mathlib.Numerals.{add-one}
use native.Mathlib.Omega.{arith}
use lib.ListN.{length, take, drop}
use Rattle.overlay.specs.Overlay.{overlay}
use Rattle.overlay.proofs.OverlayLaws.{overlay_none, overlay_two, overlay_length}
use Rattle.archive.specs.Block.{max_used, block_bytes, block}
use Rattle.archive.specs.Recording.{numbered, joined}
use Rattle.archive.proofs.BlockLaws.{block-length, cut_fits, joined_append, numbered-length, numbered_more}

-- the first i blocks of a stream are laid
pub record Laid (s before out : List ℕ) (i : ℕ) : Type 0 where
  pub same_length : length out ≡ length before
  pub bytes : out ≡ overlay before 0 (joined (numbered i 0 s))

module _ (s before : List ℕ) where
  -- none of them
  pub laid_none : Laid s before before 0
  unfolding numbered joined
  laid_none = record { same_length = refl; bytes = sym (overlay_none before 0) }

  -- the bytes of one block more
  one_more_lem : (i : ℕ)
      → joined (numbered i 0 s) ++ block i (take max_used (drop (504 * i) s)) ≡ joined (numbered (i + 1) 0 s)
  unfolding joined
  one_more_lem i =
      let b = block (0 + i) (take max_used (drop (504 * i) s)) in
      rw (add-one i, numbered_more i 0 s, joined_append (numbered i 0 s) (b ∷ []), append-nil b, zero-add i)

  -- one more
  pub laid_more : (out after : List ℕ) (i : ℕ) → 512 * i + block_bytes ≤ length before → Laid s before out i
      → after ≡ overlay out (512 * i) (block i (take max_used (drop (504 * i) s)))
      → Laid s before after (i + 1)
  laid_more out after i h l e =
      let b = block i (take max_used (drop (504 * i) s)) in
      let k = block-length i (take max_used (drop (504 * i) s)) (cut_fits (drop (504 * i) s)) in
      let n = numbered-length i 0 s in
      let same = l.same_length in
      record {
        same_length = ap length e ∙ overlay_length out (512 * i) b (omega arith) ∙ same;
        bytes =
            overlay_two before out after 0 (512 * i) _ b (omega arith) (omega arith) l.bytes e
            ∙ ap (overlay before 0) (one_more_lem i);
      }

  -- all of them
  pub laid-all : (out : List ℕ) (i count : ℕ) → i ≡ count → Laid s before out i
      → out ≡ overlay before 0 (joined (numbered count 0 s))
  laid-all out i count e l = rw (← e) l.bytes
