-- A number that no length, no word and no residual is refused with is the entropy payload's own, in
-- reading and in packing: told exactly where the lengths are in order and the payload is refused with it.
-- Assumes nothing.
use mathlib.Core.Path.{◌≡◌, refl, sym, ap, ◌∙◌}
use mathlib.Core.Bool.{Bool, true, false, cond, ◌||◌}
use mathlib.Core.List.{List}
use Prim.Native.Nat.{ℕ, zero, suc, ◌*◌, ◌<◌}
use native.Mathlib.Omega.{arith}
use borrow.Author.Tests.{le-ltb, eq-eqb, ltb-false, eqb-true}
use lib.Dec.{eqb, ltb}
use lib.IntN.{ℤ}
use lib.ListN.{length}
use Rattle.answers.specs.Limits.{max_frames, max_payload_bytes, bytes_per_frame}
use Rattle.answers.specs.Guard.{or_else, unless_refused}
use Rattle.answers.proofs.GuardLaws.{refused-first, guard_refused}
use Rattle.answers.proofs.TestLaws.{clash, neither}
use Rattle.bits.specs.Bits.{bits_of}
use Rattle.entropy.specs.Seed.{seed_refusal, seed_medians}
use Rattle.word_state.specs.State.{State}
use Rattle.readings.specs.Refused.{Why}
use Rattle.samples.specs.View.{ReadTold, read_words, read_refusal, refuse_reading, read_entry}
use Rattle.readings.proofs.RefusalLaws.{reading-why}
use Rattle.word_bits.specs.Residuals.{spanned}
use Rattle.packing.specs.Entry.{PackTold, refuse_packing, tell_packing, packed_from, pack_entry}
use Rattle.packing.specs.Entry.{refusal_before_span, span_refusal, pack_refusal}
use Rattle.roundtrip.specs.Lengths.{ReadLengths, PackLengths}

-- such a number
abbrev pub payloads : ℕ → Bool
payloads n = eqb n 1 || eqb n 17 || eqb n 2

module _ (n : ℕ) (own : payloads n ≡ true) where
  -- is none of those that something else is refused with
  not_this : (k : ℕ) → payloads k ≡ false → k ≡ n → ⊥
  not_this k f e = clash own (sym (ap payloads e) ∙ f)

  -- and it is a refusal
  positive : 0 < n
  positive = omega (arith, not_this 0 refl)

  -- no word is refused with it
  no_word : {bits : List Bool} {p : ℕ} {s : State} {c : ℕ} → Why bits p s c → c ≡ n → ⊥
  no_word (Why.no_run d r m) e = not_this 3 refl e
  no_word (Why.no_prefix q h z m) e = not_this 3 refl e
  no_word (Why.no_code q k h m) e = not_this 3 refl e
  no_word (Why.no_sign q k x m h a l) e = not_this 3 refl e
  no_word (Why.end-of_stream q h z m) e = not_this 4 refl e

  -- of the refusals about lengths and the entropy payload it is the payload's
  behind_lengths : (large fits : Bool) (rest : ℕ) → cond large 5 (cond fits rest 6) ≡ n
      → (large ≡ false) × (fits ≡ true) × (rest ≡ n)
  behind_lengths true fits rest e = absurd (not_this 5 refl e)
  behind_lengths false true rest e = (refl, refl, e)
  behind_lengths false false rest e = absurd (not_this 6 refl e)

  -- ---- reading

  module _ (entropy payload : List ℕ) (frames : ℕ) (list : List ℤ) where
    words : ReadTold
    words = read_words payload (seed_medians entropy) (2 * frames) list

    -- it comes of the payload, with lengths in order
    reading-payload : (read_entry entropy payload frames list).refusal ≡ n
        → ReadLengths payload frames list × (seed_refusal entropy ≡ n)
    unfolding read_entry read_refusal words
    reading-payload e = go (read_refusal entropy payload frames list) refl e
      where
        large : Bool
        large = ltb max_frames frames || ltb max_payload_bytes (length payload)

        ends : (large ≡ false) × (eqb (length list) (2 * frames) ≡ true) × (seed_refusal entropy ≡ n)
            → ReadLengths payload frames list × (seed_refusal entropy ≡ n)
        ends t =
            let few = neither (ltb max_frames frames) (ltb max_payload_bytes (length payload)) t.0 in (
              record {
                frames_few = ltb-false max_frames frames few.0;
                bytes-few = ltb-false max_payload_bytes (length payload) few.1;
                two_per_frame = eqb-true (length list) (2 * frames) t.1;
              },
              t.2,
            )

        go : (c : ℕ) → read_refusal entropy payload frames list ≡ c
            → (unless_refused c (refuse_reading list) words).refusal ≡ n
            → ReadLengths payload frames list × (seed_refusal entropy ≡ n)
        go zero r e =
            absurd
            (no_word (reading-why (bits_of payload) (2 * frames) 0 _ (omega (arith, not_this 0 refl))) e)
        go (suc c) r e =
            ends (behind_lengths large (eqb (length list) (2 * frames)) (seed_refusal entropy) (r ∙ e))

    -- and there it is told
    payload-reading : ReadLengths payload frames list → seed_refusal entropy ≡ n
        → (read_entry entropy payload frames list).refusal ≡ n
    unfolding read_entry read_refusal words
    payload-reading l s =
        let frames_fit = le-ltb max_frames frames l.frames_few in
        let bytes_fit = le-ltb max_payload_bytes (length payload) l.bytes-few in
        rw (frames_fit, bytes_fit, eq-eqb (length list) (2 * frames) l.two_per_frame, s)
        (ap (λ (t : ReadTold). t.refusal) (guard_refused n (refuse_reading list) words positive))

    -- so for any reason that is exactly the payload's
    pub reading_exactly : {Reason : Type 0}
        → (Reason → seed_refusal entropy ≡ n) → (seed_refusal entropy ≡ n → Reason)
        → let refusal = (read_entry entropy payload frames list).refusal in
        (ReadLengths payload frames list → Reason → refusal ≡ n)
        × (refusal ≡ n → ReadLengths payload frames list × Reason)
    reading_exactly told why =
        (λ l r. payload-reading l (told r), λ e. let p = reading-payload e in (p.0, why p.1))

  -- ---- packing

  -- neither the room nor the span is told with it
  no_room : (t : Bool) → cond t 11 0 ≡ n → ⊥
  no_room true e = not_this 11 refl e
  no_room false e = not_this 0 refl e

  no_span : (t : Bool) → cond t 0 10 ≡ n → ⊥
  no_span true e = not_this 0 refl e
  no_span false e = not_this 10 refl e

  module _ (residuals : List ℤ) (entropy : List ℕ) (frames : ℕ) (buffer : List ℕ) where
    room : ℕ
    room = cond (ltb (length buffer) (bytes_per_frame * frames)) 11 0

    words-packed : PackTold
    words-packed = tell_packing buffer (packed_from entropy residuals)

    -- it comes of the payload, with lengths in order
    packing_payload : (pack_entry residuals entropy frames buffer).refusal ≡ n
        → PackLengths residuals frames × (seed_refusal entropy ≡ n)
    unfolding pack_entry pack_refusal refusal_before_span room words-packed
    packing_payload e = go (pack_refusal residuals entropy frames buffer) refl e
      where
        seeds : (c : ℕ) → seed_refusal entropy ≡ c → or_else c room ≡ n → seed_refusal entropy ≡ n
        seeds zero s e = absurd (no_room (ltb (length buffer) (bytes_per_frame * frames)) e)
        seeds (suc c) s e = s ∙ e

        before : (c : ℕ) → refusal_before_span (length residuals) entropy frames (length buffer) ≡ c
            → or_else c (span_refusal residuals) ≡ n
            → PackLengths residuals frames × (seed_refusal entropy ≡ n)
        before zero b e = absurd (no_span (spanned residuals) e)
        before (suc c) b e =
            let fits = eqb (length residuals) (2 * frames) in
            let t = behind_lengths (ltb max_frames frames) fits (or_else (seed_refusal entropy) room) (b ∙ e)
            in (
              record {
                frames_few = ltb-false max_frames frames t.0;
                two_per_frame = eqb-true (length residuals) (2 * frames) t.1;
              },
              seeds (seed_refusal entropy) refl t.2,
            )

        go : (c : ℕ) → pack_refusal residuals entropy frames buffer ≡ c
            → (unless_refused c (refuse_packing buffer) words-packed).refusal ≡ n
            → PackLengths residuals frames × (seed_refusal entropy ≡ n)
        go zero r e = absurd (not_this 0 refl e)
        go (suc c) r e =
            before (refusal_before_span (length residuals) entropy frames (length buffer)) refl (r ∙ e)

    -- and there it is told
    payload_packing : PackLengths residuals frames → seed_refusal entropy ≡ n
        → (pack_entry residuals entropy frames buffer).refusal ≡ n
    unfolding pack_entry pack_refusal refusal_before_span room words-packed
    payload_packing l s =
        let before-room = refused-first n room positive in
        let before-span = refused-first n (span_refusal residuals) positive in
        let frames_fit = le-ltb max_frames frames l.frames_few in
        rw (frames_fit, eq-eqb (length residuals) (2 * frames) l.two_per_frame, s)
        (rw (before-room, before-span)
        (ap (λ (t : PackTold). t.refusal) (guard_refused n (refuse_packing buffer) words-packed positive)))

    -- so for any reason that is exactly the payload's
    pub packing_exactly : {Reason : Type 0}
        → (Reason → seed_refusal entropy ≡ n) → (seed_refusal entropy ≡ n → Reason)
        → let refusal = (pack_entry residuals entropy frames buffer).refusal in
        (PackLengths residuals frames → Reason → refusal ≡ n)
        × (refusal ≡ n → PackLengths residuals frames × Reason)
    packing_exactly told why =
        (λ l r. payload_packing l (told r), λ e. let p = packing_payload e in (p.0, why p.1))
