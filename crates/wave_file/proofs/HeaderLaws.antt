-- The header, laid field by field.
-- Assumes nothing.
use mathlib.Core.Path.{◌≡◌, refl, sym, ap, ◌∙◌}
use mathlib.Core.List.{List, [], ◌∷◌, ◌++◌, append_assoc, append-nil}
use Prim.Native.Nat.{ℕ, ◌+◌, ◌*◌, ◌≤◌, ◌<◌}
use native.Mathlib.Numerals.{add-one}
use native.Mathlib.Omega.{arith}
use lib.ListN.{length, take, get_or}
use lib.Seq.{take-suc, take_all, length-take-le}
use Rattle.overlay.specs.Overlay.{overlay}
use Rattle.overlay.proofs.OverlayLaws.{overlay_none, overlay_two, overlay_length}
use Rattle.little_endian.specs.LittleEndian.{little_endian}
use Rattle.wave_file.specs.File.{fmt_chunk, wave_header}
use Rattle.wave_file.specs.Words.{header_words, words_bytes}

-- the fields' bytes are the header
pub header_words_lem : (rate size : ℕ) → words_bytes (header_words rate size) ≡ wave_header rate size
unfolding words_bytes wave_header fmt_chunk little_endian
header_words_lem rate size = refl

-- four bytes each
words-length : (words : List ℕ) → length (words_bytes words) ≡ 4 * length words
unfolding words_bytes little_endian
words-length [] = refl
words-length (w ∷ words) = let h = words-length words in omega arith

-- the bytes of fields behind fields
words_append : (a b : List ℕ) → words_bytes (a ++ b) ≡ words_bytes a ++ words_bytes b
unfolding words_bytes
words_append [] b = refl
words_append (w ∷ a) b =
    ap (λ (l : List ℕ). little_endian 4 w ++ l) (words_append a b)
    ∙ sym (append_assoc (little_endian 4 w) (words_bytes a) (words_bytes b))

-- one field more
words-suc : (words : List ℕ) (i : ℕ) → i < length words
    → words_bytes (take (i + 1) words) ≡ words_bytes (take i words) ++ little_endian 4 (get_or words i 0)
unfolding words_bytes
words-suc words i h =
    ap (λ (n : ℕ). words_bytes (take n words)) (add-one i) ∙ ap words_bytes (take-suc words i 0 h)
    ∙ words_append (take i words) (get_or words i 0 ∷ [])
    ∙ ap (λ (l : List ℕ). words_bytes (take i words) ++ l) (append-nil (little_endian 4 (get_or words i 0)))

-- a field has four bytes
four : (n : ℕ) → length (little_endian 4 n) ≡ 4
unfolding little_endian
four n = refl

-- the first i fields are laid
pub record Laid (words before out : List ℕ) (i : ℕ) : Type 0 where
  pub here : i ≤ length words
  pub same_length : length out ≡ length before
  pub bytes : out ≡ overlay before 0 (words_bytes (take i words))

module _ (words before : List ℕ) (room : 4 * length words ≤ length before) where
  -- none of them
  pub laid_none : Laid words before before 0
  unfolding words_bytes
  laid_none = record { here = omega arith; same_length = refl; bytes = sym (overlay_none before 0) }

  -- one more
  pub laid_more : (out after : List ℕ) (i : ℕ) → i < length words → Laid words before out i
      → after ≡ overlay out (4 * i) (little_endian 4 (get_or words i 0))
      → Laid words before after (i + 1)
  laid_more out after i h l e =
      let n : 0 + length (words_bytes (take i words)) ≡ 4 * i =
      let m = words-length (take i words) in let t = length-take-le i words l.here in omega arith in
      let f = four (get_or words i 0) in
      record {
        here = omega arith;
        same_length = ap length e
            ∙ overlay_length out (4 * i) (little_endian 4 (get_or words i 0))
            (let s = l.same_length in omega arith) ∙ l.same_length;
        bytes =
            overlay_two before out after 0 (4 * i) (words_bytes (take i words))
            (little_endian 4 (get_or words i 0)) (omega arith) n l.bytes e
            ∙ ap (overlay before 0) (sym (words-suc words i h));
      }

  -- all of them
  pub laid-all : (out : List ℕ) (i : ℕ) → length words ≤ i → Laid words before out i
      → out ≡ overlay before 0 (words_bytes words)
  laid-all out i h l = l.bytes ∙ ap (λ (x : List ℕ). overlay before 0 (words_bytes x)) (take_all i words h)
