-- Document 02 §9: what the writer of an archive answers, and what the lent storage then holds (Q9.10).
-- Assumes nothing.
use Rattle.std.specs.Prelude.{ℕ, cond, List, Result, Ok, Err, ltb, length}
use Rattle.answers.specs.declared.Refusal.{Refusal}
use Rattle.answers.specs.Guard.{unless_refused}
use Rattle.answers.specs.Limits.{max_payload_bytes}
use Rattle.answers.specs.Numbers.{number_of}
use Rattle.overlay.specs.Overlay.{overlay}
use Rattle.archive.specs.Recording.{Recording, recording_bytes}

-- the refusal's number (0: accepted), bytes written; and the lent storage
pub record WriteTold : Type 0 where
  pub refusal : ℕ
  pub bytes : ℕ
  pub out : List ℕ

-- "5 for a longer payload, and short storage is 11"
unfoldable pub write_refusal : Recording → ℕ → ℕ
write_refusal r room =
    cond (ltb max_payload_bytes (length r.payload)) 5 (cond (ltb room (length (recording_bytes r))) 11 0)

-- a refusal writes nothing
abbrev pub refuse_write : List ℕ → ℕ → WriteTold
refuse_write out number = record { refusal = number; bytes = 0; out = out }

-- the entry's answer, with the storage as it is left
abbrev pub view_write : Result ℕ Refusal → List ℕ → WriteTold
view_write (Ok bytes) out = record { refusal = 0; bytes = bytes; out = out }
view_write (Err refusal) out = refuse_write out (number_of refusal)

-- the recording's blocks from the first byte on; storage behind them keeps its values
abbrev pub tell_write : List ℕ → List ℕ → WriteTold
tell_write out bytes = record { refusal = 0; bytes = length bytes; out = overlay out 0 bytes }

-- what the writer answers
unfoldable pub write_entry : Recording → List ℕ → WriteTold
write_entry r out =
    unless_refused (write_refusal r (length out)) (refuse_write out) (tell_write out (recording_bytes r))
