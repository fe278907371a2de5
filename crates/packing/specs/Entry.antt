-- Document 01, "Packing" (K8, K9) and "Why each operation says no" (X6): what the packing entry
-- answers, and what the lent buffer then holds.
-- Assumes nothing.
use Rattle.std.specs.Prelude.{Result, Ok, Err, cond, List, ℕ, ◌+◌, ◌*◌, ◌/◌, ltb, eqb, ℤ, length, take}
use Rattle.answers.specs.Guard.{or_else, unless_refused}
use Rattle.answers.specs.Limits.{max_frames, bytes_per_frame}
use Rattle.answers.specs.Numbers.{number_of}
use Rattle.answers.specs.declared.Refusal.{Refusal}
use Rattle.bits.specs.Laid.{bytes_holding}
use Rattle.overlay.specs.Overlay.{overlay}
use Rattle.entropy.specs.Medians.{MedianPair, pair_of, zero_pair}
use Rattle.entropy.specs.Seed.{seed_refusal, seed_medians}
use Rattle.word_state.specs.State.{start}
use Rattle.word_bits.specs.Residuals.{spanned}
use Rattle.packing.specs.Packing.{Out, packed}
use Rattle.packing.specs.declared.Packed.{Packed}

-- the refusal's number (0: accepted), bits written, medians after; and the bytes of the lent buffer
pub record PackTold : Type 0 where
  pub refusal : ℕ
  pub bits : ℕ
  pub medians : MedianPair
  pub bytes : List ℕ

-- the words of all residuals, from the medians that an entropy payload seeds
abbrev pub packed_from : List ℕ → List ℤ → Out
packed_from entropy residuals = packed (start (seed_medians entropy).left (seed_medians entropy).right) residuals

-- document 01 (K8): "Spare bits are 0; bytes behind are untouched."
abbrev pub tell_packing : List ℕ → Out → PackTold
tell_packing buffer o = record {
  refusal = 0;
  bits = length o.bits;
  medians = record { left = o.next.left; right = o.next.right };
  bytes = overlay buffer 0 (bytes_holding o.bits);
}

-- document 01 (K9, X6): "all 0 on refusal"; "The lent buffer keeps its bytes."
abbrev pub refuse_packing : List ℕ → ℕ → PackTold
refuse_packing buffer number = record { refusal = number; bits = 0; medians = zero_pair; bytes = buffer }

-- the answer that the entry gives, with the lent buffer as it is left
abbrev pub view_packing : Result Packed Refusal → List ℕ → PackTold
view_packing (Ok p) bytes = record { refusal = 0; bits = p.bits; medians = pair_of p.medians; bytes = bytes }
view_packing (Err q) bytes = refuse_packing bytes (number_of q)

-- document 01 (X6), by the lengths and the entropy payload alone: "5, over 131,072 frames; 6,
-- residual list not twice the frames; 1; 2; 11, under 28 bytes per frame lent", and 17 between 1
-- and 2 (Q7.3); 0 for none of them
unfoldable pub refusal_before_span : ℕ → List ℕ → ℕ → ℕ → ℕ
refusal_before_span elements entropy frames room =
    cond (ltb max_frames frames) 5 (
    cond (eqb elements (2 * frames))
    (or_else (seed_refusal entropy) (cond (ltb room (bytes_per_frame * frames)) 11 0))
    6)

-- document 01 (X6): and then "10, a residual outside demand 3's span"
abbrev pub span_refusal : List ℤ → ℕ
span_refusal residuals = cond (spanned residuals) 0 10

-- the first of them all that applies
unfoldable pub pack_refusal : List ℤ → List ℕ → ℕ → List ℕ → ℕ
pack_refusal residuals entropy frames buffer =
    or_else (refusal_before_span (length residuals) entropy frames (length buffer)) (span_refusal residuals)

-- what packing answers
unfoldable pub pack_entry : List ℤ → List ℕ → ℕ → List ℕ → PackTold
pack_entry residuals entropy frames buffer =
    unless_refused (pack_refusal residuals entropy frames buffer) (refuse_packing buffer) (tell_packing buffer (packed_from entropy residuals))

-- document 01, "The words of demand 3" (M5): "The packed bytes are those that hold the bits
-- written."
abbrev pub packed_bytes : PackTold → List ℕ
packed_bytes told = take ((told.bits + 7) / 8) told.bytes
