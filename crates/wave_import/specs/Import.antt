-- Document 02 §1: what import answers, and what the lent list then holds.
-- Assumes nothing.
use Rattle.std.specs.Prelude.{ℕ, cond, List, ltb, ℤ, length, Result, Ok, Err}
use Rattle.answers.specs.Guard.{unless_refused}
use Rattle.answers.specs.Numbers.{number_of}
use Rattle.answers.specs.declared.Refusal.{Refusal}
use Rattle.overlay.specs.Overlay.{overlay}
use Rattle.wave_data.specs.Data.{file_samples}
use Rattle.wave_file.specs.File.{max_file_bytes}
use Rattle.wave_header.specs.Wave.{file_rate, is_wave}
use Rattle.wave_import.specs.declared.Imported.{Imported}

-- the refusal's number (0: accepted), rate, samples written; and the lent list
pub record ImportTold : Type 0 where
  pub refusal : ℕ
  pub rate : ℕ
  pub written : ℕ
  pub samples : List ℤ

-- what the entry's answer tells, with the lent list as it is left; a refusal tells of no rate and of no
-- sample written
abbrev pub view_import : Result Imported Refusal → List ℤ → ImportTold
view_import (Ok r) samples = record { refusal = 0; rate = r.rate; written = r.written; samples = samples }
view_import (Err refusal) samples =
    record { refusal = number_of refusal; rate = 0; written = 0; samples = samples }

-- "a file of over 524,332 bytes is 5, first"; 14 for what is no such file; "a lent list shorter
-- than the file's samples is 11, after 14" (Q1.4)
unfoldable pub import_refusal : List ℕ → ℕ → ℕ
import_refusal file room =
    cond (ltb max_file_bytes (length file)) 5
    (cond (is_wave file) (cond (ltb room (length (file_samples file))) 11 0) 14)

-- a refusal writes nothing
abbrev pub refuse_import : List ℤ → ℕ → ImportTold
refuse_import list number = record { refusal = number; rate = 0; written = 0; samples = list }

-- the file's samples from the first place on; "lent storage behind what is written keeps its
-- values"
abbrev pub tell_import : List ℤ → ℕ → List ℤ → ImportTold
tell_import list rate samples =
    record { refusal = 0; rate = rate; written = length samples; samples = overlay list 0 samples }

-- what import answers
unfoldable pub import_entry : List ℕ → List ℤ → ImportTold
import_entry file list =
    unless_refused (import_refusal file (length list)) (refuse_import list)
    (tell_import list (file_rate file) (file_samples file))
