-- The C interface of sound files: the slots, and what each call answers and leaves in the lent
-- lists, on refusal too (Q1.3, Q1.4).
-- Assumes nothing.
use Rattle.std.specs.Prelude.{ℕ, List, [], ◌∷◌, ℤ}
use Rattle.slots.specs.Slots.{Filled, fill_call}
use Rattle.wave_export.specs.Export.{ExportTold, export_entry}
use Rattle.wave_import.specs.Import.{ImportTold, import_entry}

-- what export tells, with 1 slot: the bytes written
abbrev pub leave_export : List ℕ → List ℕ → ExportTold → Filled ℕ
leave_export out answer t = fill_call 1 out answer t.refusal t.bytes (t.written ∷ [])

-- the number that `wv_wave_export` answers, and what its two lists then hold
unfoldable pub export_call : ℕ → List ℤ → List ℕ → List ℕ → Filled ℕ
export_call rate samples out answer = leave_export out answer (export_entry rate samples out)

-- what import tells, with 2 slots: the rate and the samples written
abbrev pub leave_import : List ℤ → List ℕ → ImportTold → Filled ℤ
leave_import samples answer t = fill_call 2 samples answer t.refusal t.samples (t.rate ∷ t.written ∷ [])

-- the number that `wv_wave_import` answers, and what its two lists then hold
unfoldable pub import_call : List ℕ → List ℤ → List ℕ → Filled ℤ
import_call file samples answer = leave_import samples answer (import_entry file samples)
