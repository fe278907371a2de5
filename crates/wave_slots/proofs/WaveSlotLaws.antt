-- The answers of each call, by what its entry told.
-- Assumes nothing.
use mathlib.Core.Path.{◌≡◌, sym, ap, ◌∙◌}
use mathlib.Core.List.{List, [], ◌∷◌}
use Prim.Native.Nat.{ℕ, ◌≤◌, ◌<◌}
use lib.IntN.{ℤ}
use lib.ListN.{length}
use Rattle.std.specs.Prelude.{Ok, Err}
use Rattle.answers.specs.declared.Refusal.{Refusal}
use Rattle.answers.specs.Numbers.{number_of}
use Rattle.overlay.specs.Overlay.{overlay}
use Rattle.slots.proofs.FillLaws.{fill-short, fill-refused, fill-laid}
use Rattle.wave_export.specs.Export.{view_export, export_entry}
use Rattle.wave_import.specs.Import.{view_import, import_entry}
use Rattle.wave_import.specs.declared.Imported.{Imported}
use Rattle.wave_slots.specs.WaveSlots.{leave_export, export_call, leave_import, import_call}

module _ (rate : ℕ) (samples : List ℤ) (out answer : List ℕ) where
  pub export_short : length answer < 1
      → record { refusal = 6; list = out; answer = answer } ≡ export_call rate samples out answer
  unfolding export_call
  export_short h = fill-short 1 out _ answer _ _ h

  pub export_refused : (x : Refusal) (after : List ℕ) → 1 ≤ length answer → view_export (Err x) after ≡ export_entry rate samples out
      → record { refusal = number_of x; list = after; answer = answer } ≡ export_call rate samples out answer
  unfolding export_call
  export_refused x after h e = fill-refused 1 out after answer (0 ∷ []) x h ∙ ap (leave_export out answer) e

  pub export_laid : (w : ℕ) (after laid : List ℕ) → 1 ≤ length answer → view_export (Ok w) after ≡ export_entry rate samples out
      → laid ≡ overlay answer 0 (w ∷ [])
      → record { refusal = 0; list = after; answer = laid } ≡ export_call rate samples out answer
  unfolding export_call
  export_laid w after laid h e l = fill-laid 1 out after answer (w ∷ []) laid h l ∙ ap (leave_export out answer) e

module _ (file : List ℕ) (samples : List ℤ) (answer : List ℕ) where
  pub import_short : length answer < 2 → record { refusal = 6; list = samples; answer = answer } ≡ import_call file samples answer
  unfolding import_call
  import_short h = fill-short 2 samples _ answer _ _ h

  pub import_few : length answer < 2 → import_call file samples answer ≡ record { refusal = 6; list = samples; answer = answer }
  import_few h = sym (import_short h)

  pub import_refused : (x : Refusal) (after : List ℤ) → 2 ≤ length answer → view_import (Err x) after ≡ import_entry file samples
      → record { refusal = number_of x; list = after; answer = answer } ≡ import_call file samples answer
  unfolding import_call
  import_refused x after h e = fill-refused 2 samples after answer (0 ∷ 0 ∷ []) x h ∙ ap (leave_import samples answer) e

  pub import_laid : (r : Imported) (after : List ℤ) (laid : List ℕ) → 2 ≤ length answer → view_import (Ok r) after ≡ import_entry file samples
      → laid ≡ overlay answer 0 (r.rate ∷ r.written ∷ [])
      → record { refusal = 0; list = after; answer = laid } ≡ import_call file samples answer
  unfolding import_call
  import_laid r after laid h e l = fill-laid 2 samples after answer (r.rate ∷ r.written ∷ []) laid h l ∙ ap (leave_import samples answer) e
