-- The packing entry: what an answer tells of the input, each way out, and the answer of an accepted
-- list.
-- Assumes nothing.
use mathlib.Core.Path.{◌≡◌, refl, sym, ap, ◌∙◌}
use mathlib.Core.Bool.{Bool, true, false, cond}
use mathlib.Core.List.{List}
use Prim.Native.Nat.{ℕ, zero, suc, ◌+◌, ◌*◌, ◌/◌, ◌≤◌, ◌<◌}
use native.Mathlib.Omega.{arith}
use Rattle.std.specs.Prelude.{Ok, Err}
use lib.IntN.{ℤ}
use lib.ListN.{length, take}
use Rattle.answers.specs.declared.Refusal.{Refusal}
use Rattle.answers.specs.Guard.{or_else, unless_refused}
use Rattle.answers.specs.Limits.{bytes_per_frame, max_word_bits, max_elements}
use Rattle.answers.specs.Numbers.{number_of}
use Rattle.answers.proofs.GuardLaws.{refused-first, guard_refused, guard_accepted}
use Rattle.answers.proofs.NumberLaws.{number-positive}
use Rattle.bits.specs.Laid.{bytes_holding}
use Rattle.overlay.specs.Overlay.{overlay}
use Rattle.overlay.proofs.OverlayLaws.{overlay_take}
use Rattle.bits.proofs.LaidLaws.{put-start, length_holding}
use Rattle.entropy.specs.Medians.{MedianPair, pair_of}
use Rattle.entropy.specs.Seed.{seed_medians}
use Rattle.entropy.proofs.SeedBounds.{seeds-small}
use Rattle.word_state.specs.State.{start}
use Rattle.word_bits.specs.Residuals.{spanned}
use Rattle.packing.specs.Packing.{packed}
use Rattle.packing.specs.Entry.{PackTold, view_packing, packed_from, tell_packing, refuse_packing, refusal_before_span, span_refusal, pack_refusal, pack_entry, packed_bytes}
use Rattle.packing.specs.View.{PackedIs}
use Rattle.packing.specs.declared.Packed.{Packed}
use Rattle.packing.proofs.InStepLaws.{start-inv}
use Rattle.packing.proofs.RefusalLaws.{Ready, before-none, ready}
use Rattle.packing.proofs.SizeLaws.{packed-long, bytes-enough}

-- ---- what an answer tells

-- what packing accepts
pub record Accepted (residuals : List ℤ) (entropy : List ℕ) (frames : ℕ) (buffer : List ℕ) : Type 0 where
  pub before : Ready (length residuals) entropy frames (length buffer)
  pub span : spanned residuals ≡ true

module _ (residuals : List ℤ) (entropy : List ℕ) (frames : ℕ) (buffer : List ℕ) where
  -- the refusal that an answer tells is the first that applies
  pub refusal_is : (pack_entry residuals entropy frames buffer).refusal ≡ pack_refusal residuals entropy frames buffer
  unfolding pack_entry
  refusal_is = go (pack_refusal residuals entropy frames buffer)
    where
      go : (n : ℕ) → (unless_refused n (refuse_packing buffer) (tell_packing buffer (packed_from entropy residuals))).refusal ≡ n
      go zero = refl
      go (suc n) = refl

  -- an answer with a refusal tells that the buffer keeps its bytes
  pub pack-refused : 0 < (pack_entry residuals entropy frames buffer).refusal → (pack_entry residuals entropy frames buffer).bytes ≡ buffer
  unfolding pack_entry
  pack-refused h =
      let p : 0 < pack_refusal residuals entropy frames buffer = omega (arith, refusal_is) in
      ap (λ (t : PackTold). t.bytes) (guard_refused (pack_refusal residuals entropy frames buffer) (refuse_packing buffer) (tell_packing buffer (packed_from entropy residuals)) p)

  -- no earlier refusal applies: the span decides
  pub span_decides : Ready (length residuals) entropy frames (length buffer) → pack_refusal residuals entropy frames buffer ≡ span_refusal residuals
  unfolding pack_refusal
  span_decides r = rw (← before-none (length residuals) entropy frames (length buffer) r)

  -- an answer without a refusal tells that packing accepts
  pub packing_accepted : (pack_entry residuals entropy frames buffer).refusal ≡ 0 → Accepted residuals entropy frames buffer
  unfolding pack_refusal
  packing_accepted e = first (refusal_before_span (length residuals) entropy frames (length buffer)) refl (sym refusal_is ∙ e)
    where
      in_span : (t : Bool) → spanned residuals ≡ t → refusal_before_span (length residuals) entropy frames (length buffer) ≡ 0 → ◌≡◌ {A = ℕ} (cond t 0 10) 0 → Accepted residuals entropy frames buffer
      in_span true s b e = record { before = ready (length residuals) entropy frames (length buffer) b; span = s }
      in_span false s b e = absurd (omega arith)

      first : (n : ℕ) → refusal_before_span (length residuals) entropy frames (length buffer) ≡ n → or_else n (span_refusal residuals) ≡ 0 → Accepted residuals entropy frames buffer
      first zero b e = in_span (spanned residuals) refl b e
      first (suc n) b e = absurd (omega arith)

  -- what it accepts, it packs
  pub packed-is : Accepted residuals entropy frames buffer → pack_entry residuals entropy frames buffer ≡ tell_packing buffer (packed_from entropy residuals)
  unfolding pack_entry
  packed-is a =
      guard_accepted (pack_refusal residuals entropy frames buffer) (refuse_packing buffer) (tell_packing buffer (packed_from entropy residuals))
      (span_decides a.before ∙ rw a.span)

  -- the packed bytes hold the bits written, and stand first in the buffer
  pub bytes_are : Accepted residuals entropy frames buffer → packed_bytes (pack_entry residuals entropy frames buffer) ≡ bytes_holding (packed_from entropy residuals).bits
  bytes_are a =
      let w = (packed_from entropy residuals).bits in
      ap packed_bytes (packed-is a) ∙ ap (λ (n : ℕ). take n (overlay buffer 0 (bytes_holding w))) (sym (length_holding w)) ∙ overlay_take buffer (bytes_holding w)

  -- they are at most 28 a frame
  pub bytes-few : Accepted residuals entropy frames buffer → length (packed_bytes (pack_entry residuals entropy frames buffer)) ≤ bytes_per_frame * frames
  bytes-few a =
      let s = seeds-small entropy in
      rw (bytes_are a)
      (bytes-enough (seed_medians entropy).left (seed_medians entropy).right residuals frames s.0 s.1 a.span a.before.frames_few a.before.list-is)

  -- they lie within the buffer
  pub bits-within : Accepted residuals entropy frames buffer → ((pack_entry residuals entropy frames buffer).bits + 7) / 8 ≤ length buffer
  bits-within a =
      let s = seeds-small entropy in
      let w = (packed_from entropy residuals).bits in
      let b : (pack_entry residuals entropy frames buffer).bits ≡ length w = ap (λ (t : PackTold). t.bits) (packed-is a) in
      let q = bytes-enough (seed_medians entropy).left (seed_medians entropy).right residuals frames s.0 s.1 a.span a.before.frames_few a.before.list-is in
      rw b (omega (arith, q, length_holding w, a.before.enough))

  -- at most 111 bits for each of 262,144 residuals, and none on refusal
  pub bits-few : (pack_entry residuals entropy frames buffer).bits ≤ max_word_bits * max_elements
  unfolding pack_entry
  bits-few = go (pack_refusal residuals entropy frames buffer) refl
    where
      go : (n : ℕ) → pack_refusal residuals entropy frames buffer ≡ n
          → (unless_refused n (refuse_packing buffer) (tell_packing buffer (packed_from entropy residuals))).bits ≤ max_word_bits * max_elements
      go zero e =
          let a = packing_accepted (refusal_is ∙ e) in
          let s = seeds-small entropy in
          let l = (seed_medians entropy).left in
          let r = (seed_medians entropy).right in
          let few : length residuals ≤ max_elements = omega (arith, a.before.list-is, a.before.frames_few) in
          omega (arith, few, packed-long (start l r) residuals (start-inv l r residuals s.0 s.1) a.span (omega arith))
      go (suc n) e = omega arith

-- ---- the ways out of the code

module _ (residuals : List ℤ) (entropy : List ℕ) (frames : ℕ) (buffer : List ℕ) where
  -- a refusal with the number that the definition tells
  refuses : (x : Refusal) → pack_refusal residuals entropy frames buffer ≡ number_of x → view_packing (Err x) buffer ≡ pack_entry residuals entropy frames buffer
  unfolding pack_entry
  refuses x e =
      rw e (sym (guard_refused (number_of x) (refuse_packing buffer) (tell_packing buffer (packed_from entropy residuals)) (number-positive x)))

  -- 5, 6, 1, 17, 2 and 11
  pub refuses-before : (x : Refusal) → number_of x ≡ refusal_before_span (length residuals) entropy frames (length buffer)
      → view_packing (Err x) buffer ≡ pack_entry residuals entropy frames buffer
  unfolding pack_refusal
  refuses-before x e = refuses x (rw (← e) (refused-first (number_of x) (span_refusal residuals) (number-positive x)))

  -- 10: a residual outside the span
  pub refuses-span : Ready (length residuals) entropy frames (length buffer) → spanned residuals ≡ false
      → view_packing (Err Refusal.ResidualOutOfSpan) buffer ≡ pack_entry residuals entropy frames buffer
  refuses-span b s = refuses Refusal.ResidualOutOfSpan (span_decides residuals entropy frames buffer b ∙ rw s)

-- what the loop wrote is the answer
pub accepts : (residuals : List ℤ) (entropy : List ℕ) (frames : ℕ) (buffer after : List ℕ) (seeds : MedianPair) (p : Packed)
    → Accepted residuals entropy frames buffer → seeds ≡ seed_medians entropy → PackedIs buffer after seeds residuals p
    → view_packing (Ok p) after ≡ pack_entry residuals entropy frames buffer
accepts residuals entropy frames buffer after seeds p a g k =
    let q = packed (start seeds.left seeds.right) residuals in
    told_is p.bits (length q.bits) (pair_of p.medians) (record { left = q.next.left; right = q.next.right }) after (overlay buffer 0 (bytes_holding q.bits))
    k.bits_are k.medians_are (k.bytes ∙ put-start buffer q.bits)
    ∙ ap (λ (x : MedianPair). tell_packing buffer (packed (start x.left x.right) residuals)) g ∙ sym (packed-is residuals entropy frames buffer a)
  where
    -- two answers with the same parts are the same
    told_is : (b b' : ℕ) (m m' : MedianPair) (y y' : List ℕ) → b ≡ b' → m ≡ m' → y ≡ y'
        → ◌≡◌ {A = PackTold} (record { refusal = 0; bits = b; medians = m; bytes = y }) (record { refusal = 0; bits = b'; medians = m'; bytes = y' })
    told_is b b' m m' y y' q r s = rw (q, r, s)
