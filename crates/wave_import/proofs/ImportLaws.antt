-- Why import refuses, and what it writes where it does not.
-- Assumes nothing.
use mathlib.Core.Path.{◌≡◌, refl, sym, ap, ◌∙◌}
use mathlib.Core.Bool.{Bool, true, false, cond}
use mathlib.Core.List.{List}
use Prim.Native.Nat.{ℕ, zero, suc, ◌-◌, ◌/◌, ◌≤◌, ◌<◌}
use native.Mathlib.Omega.{arith}
use borrow.Author.Tests.{lt-ltb, le-ltb, ltb-false}
use lib.Dec.{ltb}
use lib.IntN.{ℤ}
use lib.ListN.{length}
use Rattle.answers.specs.declared.Refusal.{Refusal}
use Rattle.answers.specs.Guard.{unless_refused}
use Rattle.answers.specs.Numbers.{number_of}
use Rattle.answers.proofs.GuardLaws.{guard_refused, guard_accepted}
use Rattle.answers.proofs.NumberLaws.{number-positive}
use Rattle.overlay.specs.Overlay.{overlay}
use Rattle.wave_file.specs.File.{header_bytes, max_file_bytes}
use Rattle.wave_header.specs.Wave.{file_rate, is_wave}
use Rattle.wave_data.specs.Data.{file_samples}
use Rattle.wave_import.specs.Import.{import_refusal, refuse_import, tell_import, import_entry}
use Rattle.wave_data.proofs.SampleLaws.{file_samples_lem}

-- what none of the refusals meets
pub record Importable (file : List ℕ) (room : ℕ) : Type 0 where
  pub few : length file ≤ max_file_bytes
  pub wave : is_wave file ≡ true
  pub enough : length (file_samples file) ≤ room

module _ (file : List ℕ) (room : ℕ) where
  -- 5: over 524,332 bytes
  pub import_long : max_file_bytes < length file → 5 ≡ import_refusal file room
  unfolding import_refusal
  import_long h = rw (lt-ltb max_file_bytes (length file) h)

  -- 14: no such file
  pub import_other : length file ≤ max_file_bytes → is_wave file ≡ false → 14 ≡ import_refusal file room
  unfolding import_refusal
  import_other f w = rw (le-ltb max_file_bytes (length file) f, w)

  -- 11: a short list
  pub import_room : length file ≤ max_file_bytes → is_wave file ≡ true → room < length (file_samples file)
      → 11 ≡ import_refusal file room
  unfolding import_refusal
  import_room f w h =
      rw (le-ltb max_file_bytes (length file) f, w, lt-ltb room (length (file_samples file)) h)

  -- none of them
  pub import_none : Importable file room → 0 ≡ import_refusal file room
  unfolding import_refusal
  import_none i = rw (
    le-ltb max_file_bytes (length file) i.few,
    i.wave,
    le-ltb room (length (file_samples file)) i.enough,
  )

  -- and then all of it holds
  pub importable : import_refusal file room ≡ 0 → Importable file room
  unfolding import_refusal
  importable e = long (ltb max_file_bytes (length file)) refl e
    where
      short : length file ≤ max_file_bytes → is_wave file ≡ true → (t : Bool)
          → ltb room (length (file_samples file)) ≡ t → ◌≡◌ {A = ℕ} (cond t 11 0) 0 → Importable file room
      short f w true q e = absurd (omega arith)
      short f w false q e = record { few = f; wave = w; enough = ltb-false _ _ q }

      other : length file ≤ max_file_bytes → (t : Bool) → is_wave file ≡ t
          → ◌≡◌ {A = ℕ} (cond t (cond (ltb room (length (file_samples file))) 11 0) 14) 0
          → Importable file room
      other f true q e = short f q (ltb room (length (file_samples file))) refl e
      other f false q e = absurd (omega arith)

      long : (t : Bool) → ltb max_file_bytes (length file) ≡ t
          → ◌≡◌ {A = ℕ}
          (cond t 5 (cond (is_wave file) (cond (ltb room (length (file_samples file))) 11 0) 14)) 0
          → Importable file room
      long true q e = absurd (omega arith)
      long false q e = other (ltb-false _ _ q) (is_wave file) refl e

module _ (file : List ℕ) (list : List ℤ) where
  -- a refusal leaves the list
  pub import_refused : (x : Refusal) → number_of x ≡ import_refusal file (length list)
      → record { refusal = number_of x; rate = 0; written = 0; samples = list } ≡ import_entry file list
  unfolding import_entry
  import_refused x e =
      ap (refuse_import list) e
      ∙ sym (guard_refused (import_refusal file (length list)) (refuse_import list)
      (tell_import list (file_rate file) (file_samples file))
      (rw (← e) (number-positive x)))

  -- the number that is told is that of the first refusal that applies
  pub import_number : (import_entry file list).refusal ≡ import_refusal file (length list)
  unfolding import_entry
  import_number = go (import_refusal file (length list))
    where
      go : (n : ℕ) → (unless_refused n (refuse_import list)
          (tell_import list (file_rate file) (file_samples file))).refusal ≡ n
      go zero = refl
      go (suc n) = refl

  -- what is told where nothing is refused
  pub import_told : import_refusal file (length list) ≡ 0
      → import_entry file list ≡ tell_import list (file_rate file) (file_samples file)
  unfolding import_entry
  import_told e = guard_accepted (import_refusal file (length list)) (refuse_import list)
      (tell_import list (file_rate file) (file_samples file)) e

  -- the rate and the samples
  pub import_accepted : (after : List ℤ) (rate w : ℕ) → Importable file (length list) → rate ≡ file_rate file
      → w ≡ (length file - header_bytes) / 2
      → after ≡ overlay list 0 (file_samples file)
      → record { refusal = 0; rate = rate; written = w; samples = after } ≡ import_entry file list
  import_accepted after rate w i r l a =
      rw (a, r, l, ← file_samples_lem file) (sym (import_told (sym (import_none file (length list) i))))
