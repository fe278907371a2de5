-- Document 02 §1: what export answers, and what the lent buffer then holds.
-- Assumes nothing.
use Rattle.std.specs.Prelude.{ℕ, cond, List, ℤ, length, Result, Ok, Err}
use Rattle.answers.specs.Guard.{or_else, unless_refused}
use Rattle.answers.specs.Lists.{frames_refusal}
use Rattle.answers.specs.Numbers.{number_of}
use Rattle.answers.specs.declared.Refusal.{Refusal}
use Rattle.overlay.specs.Overlay.{overlay}
use Rattle.wave_data.specs.Data.{within16, file_bytes}
use Rattle.wave_file.specs.File.{rate_taken, wave_file}

-- the refusal's number (0: accepted), bytes written; and the bytes of the lent buffer
pub record ExportTold : Type 0 where
  pub refusal : ℕ
  pub written : ℕ
  pub bytes : List ℕ

-- what the entry's answer tells, with the lent buffer as it is left; a refusal tells of no byte written
abbrev pub view_export : Result ℕ Refusal → List ℕ → ExportTold
view_export (Ok written) bytes = record { refusal = 0; written = written; bytes = bytes }
view_export (Err refusal) bytes = record { refusal = number_of refusal; written = 0; bytes = bytes }

-- "14, .. on export a rate outside its span, which is tested before 13"; "13, a sample outside
-- -32,768 to 32,767" (Q1.3)
unfoldable pub sound_refusal : ℕ → List ℤ → ℕ
sound_refusal rate samples = cond (rate_taken rate) (cond (within16 samples) 0 13) 14

-- "a list of over 262,144 or an odd number of samples (5, 6) and a short lent buffer (11) come
-- first" (Q1.3); the first refusal that applies, 0 for none
unfoldable pub export_refusal : ℕ → List ℤ → ℕ → ℕ
export_refusal rate samples room =
    or_else (frames_refusal (length samples) (file_bytes (length samples)) room) (sound_refusal rate samples)

-- a refusal writes nothing: 13 is "tested before any byte is written"
abbrev pub refuse_export : List ℕ → ℕ → ExportTold
refuse_export buffer number = record { refusal = number; written = 0; bytes = buffer }

-- the file from the first byte on; "lent storage behind what is written keeps its values"
abbrev pub tell_export : List ℕ → List ℕ → ExportTold
tell_export buffer file = record { refusal = 0; written = length file; bytes = overlay buffer 0 file }

-- what export answers
unfoldable pub export_entry : ℕ → List ℤ → List ℕ → ExportTold
export_entry rate samples buffer =
    unless_refused (export_refusal rate samples (length buffer)) (refuse_export buffer)
    (tell_export buffer (wave_file rate samples))
