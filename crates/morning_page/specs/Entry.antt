-- Document 02 §5: what the entry answers, and what the lent storage then holds.
-- Assumes nothing.
use Rattle.std.specs.Prelude.{List, ℕ, ◌*◌, ℤ, length, Result, Ok, Err}
use Rattle.answers.specs.Guard.{unless_refused}
use Rattle.answers.specs.Lists.{frames_refusal}
use Rattle.answers.specs.Numbers.{number_of}
use Rattle.answers.specs.declared.Refusal.{Refusal}
use Rattle.overlay.specs.Overlay.{overlay}
use Rattle.page_lines.specs.Page.{line_bytes, line_count, page}

-- the refusal's number (0: accepted), bytes written; and the bytes of the lent storage
pub record PageTold : Type 0 where
  pub refusal : ℕ
  pub written : ℕ
  pub bytes : List ℕ

-- what the entry's answer tells, with the storage as it is left; a refusal tells of no byte written
abbrev pub view_page : Result ℕ Refusal → List ℕ → PageTold
view_page (Ok written) bytes = record { refusal = 0; written = written; bytes = bytes }
view_page (Err refusal) bytes = record { refusal = number_of refusal; written = 0; bytes = bytes }

-- "List faults are 5 and 6, short page storage 11" (Q5.6)
abbrev pub page_refusal : ℕ → ℕ → ℕ
page_refusal elements room = frames_refusal elements (line_bytes * line_count elements) room

-- "and then nothing is written" (Q5.6)
abbrev pub refuse_page : List ℕ → ℕ → PageTold
refuse_page storage number = record { refusal = number; written = 0; bytes = storage }

-- the page from the first byte on; storage after it keeps its values
abbrev pub tell_page : List ℕ → List ℕ → PageTold
tell_page storage text = record { refusal = 0; written = length text; bytes = overlay storage 0 text }

-- what the entry answers
unfoldable pub page_entry : ℕ → List ℤ → List ℕ → PageTold
page_entry threshold samples storage =
    unless_refused (page_refusal (length samples) (length storage)) (refuse_page storage)
    (tell_page storage (page threshold samples))
