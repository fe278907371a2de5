-- Why export refuses, and what it writes where it does not.
-- Assumes nothing.
use mathlib.Core.Path.{◌≡◌, refl, sym, ap, ◌∙◌}
use mathlib.Core.Bool.{Bool, true, false, cond}
use mathlib.Core.List.{List}
use Prim.Native.Nat.{ℕ, zero, suc, ◌+◌, ◌*◌, ◌%◌, ◌<◌, ◌≤◌}
use native.Mathlib.Omega.{arith}
use lib.IntN.{ℤ}
use lib.ListN.{length}
use Rattle.answers.specs.declared.Refusal.{Refusal}
use Rattle.answers.specs.Guard.{or_else, unless_refused}
use Rattle.answers.specs.Lists.{frames_refusal}
use Rattle.answers.specs.Numbers.{number_of}
use Rattle.answers.proofs.GuardLaws.{refused-first, refused-later, neither-refused, guard_refused}
use Rattle.answers.proofs.GuardLaws.{guard_accepted}
use Rattle.answers.specs.Limits.{max_elements}
use Rattle.answers.proofs.ListLaws.{frames_long, frames_odd, frames_none, frames_fit}
use Rattle.answers.proofs.NumberLaws.{number-positive}
use Rattle.overlay.specs.Overlay.{overlay}
use Rattle.overlay.proofs.OverlayLaws.{overlay_two}
use Rattle.wave_file.specs.File.{header_bytes, rate_taken, wave_header, data_bytes, wave_file}
use Rattle.wave_data.specs.Data.{within16, file_bytes}
use Rattle.wave_data.proofs.LayLaws.{Fits}
use Rattle.wave_export.specs.Export.{sound_refusal, export_refusal, refuse_export, tell_export, export_entry}
use Rattle.wave_file.proofs.FileLaws.{header-length, file-length}

-- the list and the buffer are right, and so are the rate and the samples
pub record Ready (rate : ℕ) (samples : List ℤ) (room : ℕ) : Type 0 where
  pub fitting : Fits samples room
  pub rate_taken_lem : rate_taken rate ≡ true
  pub sixteen-bits : within16 samples ≡ true

module _ (rate : ℕ) (samples : List ℤ) (room : ℕ) where
  -- 5, 6, 11: the list and the buffer are told of first
  pub export_lengths : (number : ℕ)
      → frames_refusal (length samples) (file_bytes (length samples)) room ≡ number → 0 < number
      → number ≡ export_refusal rate samples room
  unfolding export_refusal
  export_lengths number e h =
      sym (ap (λ (n : ℕ). or_else n (sound_refusal rate samples)) e
      ∙ refused-first number (sound_refusal rate samples) h)

  -- 5: over 262,144 samples
  pub export_long : max_elements < length samples → export_refusal rate samples room ≡ 5
  export_long h = sym (export_lengths 5 (frames_long (length samples) (file_bytes (length samples)) room h) (omega arith))

  -- 6: an odd number of them
  pub export_odd : length samples ≤ max_elements → (length samples % 2 ≡ 0 → ⊥) → export_refusal rate samples room ≡ 6
  export_odd f h = sym (export_lengths 6 (frames_odd (length samples) (file_bytes (length samples)) room f h) (omega arith))

  -- none of these three: the rate and the samples decide
  fits-is : Fits samples room → export_refusal rate samples room ≡ sound_refusal rate samples
  unfolding export_refusal
  fits-is f = refused-later (frames_refusal (length samples) (file_bytes (length samples)) room)
      (sound_refusal rate samples) (frames_none (length samples) (file_bytes (length samples)) room f)

  -- 14: the rate is outside its span
  pub export_rate : Fits samples room → rate_taken rate ≡ false → 14 ≡ export_refusal rate samples room
  unfolding sound_refusal
  export_rate f r = sym (fits-is f ∙ rw r)

  -- 13: a sample is outside 16 bits
  pub export_span : Fits samples room → rate_taken rate ≡ true → within16 samples ≡ false
      → 13 ≡ export_refusal rate samples room
  unfolding sound_refusal
  export_span f r s = sym (fits-is f ∙ rw (r, s))

  -- none at all
  pub export_none : Ready rate samples room → 0 ≡ export_refusal rate samples room
  unfolding sound_refusal
  export_none r = sym (fits-is r.fitting ∙ rw (r.rate_taken_lem, r.sixteen-bits))

  -- and then all of it holds
  pub export_ready : export_refusal rate samples room ≡ 0 → Ready rate samples room
  unfolding export_refusal sound_refusal
  export_ready e =
      let n = neither-refused (frames_refusal (length samples) (file_bytes (length samples)) room)
      (sound_refusal rate samples) e in
      sound (frames_fit (length samples) (file_bytes (length samples)) room n.0) (rate_taken rate) refl
      n.1
    where
      span : Fits samples room → (t : Bool) → rate_taken rate ≡ true → within16 samples ≡ t
          → ◌≡◌ {A = ℕ} (cond t 0 13) 0 → Ready rate samples room
      span f true r q e = record { fitting = f; rate_taken_lem = r; sixteen-bits = q }
      span f false r q e = absurd (omega arith)

      sound : Fits samples room → (t : Bool) → rate_taken rate ≡ t
          → ◌≡◌ {A = ℕ} (cond t (cond (within16 samples) 0 13) 14) 0 → Ready rate samples room
      sound f true q e = span f (within16 samples) q refl e
      sound f false q e = absurd (omega arith)

module _ (rate : ℕ) (samples : List ℤ) (out : List ℕ) where
  -- a refusal leaves the buffer
  pub export_refused : (x : Refusal) → number_of x ≡ export_refusal rate samples (length out)
      → record { refusal = number_of x; written = 0; bytes = out } ≡ export_entry rate samples out
  unfolding export_entry
  export_refused x e =
      ap (refuse_export out) e
      ∙ sym (guard_refused (export_refusal rate samples (length out)) (refuse_export out)
      (tell_export out (wave_file rate samples)) (rw (← e) (number-positive x)))

  -- the number that is told is that of the first refusal that applies
  pub export_number : (export_entry rate samples out).refusal ≡ export_refusal rate samples (length out)
  unfolding export_entry
  export_number = go (export_refusal rate samples (length out))
    where
      go : (n : ℕ)
          → (unless_refused n (refuse_export out) (tell_export out (wave_file rate samples))).refusal ≡ n
      go zero = refl
      go (suc n) = refl

  -- what is told where nothing is refused
  pub export_told : export_refusal rate samples (length out) ≡ 0
      → export_entry rate samples out ≡ tell_export out (wave_file rate samples)
  unfolding export_entry
  export_told e = guard_accepted (export_refusal rate samples (length out)) (refuse_export out)
      (tell_export out (wave_file rate samples)) e

  -- the header and then the samples
  pub export_accepted : (first after : List ℕ) (w : ℕ) → Ready rate samples (length out)
      → first ≡ overlay out 0 (wave_header rate (2 * length samples))
      → after ≡ overlay first header_bytes (data_bytes samples) → w ≡ header_bytes + 2 * length samples
      → record { refusal = 0; written = w; bytes = after } ≡ export_entry rate samples out
  unfolding wave_file
  export_accepted first after w r f a l =
      let k = header-length rate (2 * length samples) in
      let all : after ≡ overlay out 0 (wave_file rate samples) =
      overlay_two out first after 0 header_bytes (wave_header rate (2 * length samples)) (data_bytes samples)
      (omega arith) (omega arith) f a in
      rw (all, l, ← file-length rate samples)
      (sym (export_told (sym (export_none rate samples (length out) r))))
