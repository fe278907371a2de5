-- The C interface of archives: the slots, and what each call answers and leaves in the lent lists, on
-- refusal too (Q9.6, Q9.10).
-- Assumes nothing.
use Rattle.std.specs.Prelude.{ℕ, ◌%◌, cond, List, [], ◌∷◌, eqb, ltb, length}
use Rattle.overlay.specs.Overlay.{overlay}
use Rattle.slots.specs.Slots.{Filled, fill_call}
use Rattle.archive.specs.Recording.{Recording}
use Rattle.archive_writer.specs.Write.{WriteTold, write_entry}
use Rattle.archive_reader.specs.Read.{ReadTold, read_entry}

-- what the writer tells, with 1 slot: the bytes written
abbrev pub leave_write : List ℕ → List ℕ → WriteTold → Filled ℕ
leave_write out answer t = fill_call 1 out answer t.refusal t.out (t.bytes ∷ [])

-- the number that `wv_archive_write` answers, and what its two lists then hold
unfoldable pub write_call : Recording → List ℕ → List ℕ → Filled ℕ
write_call r out answer = leave_write out answer (write_entry r out)

-- what reading leaves: the number that it answers, and its three lists
pub record ReadLeft : Type 0 where
  pub refusal : ℕ
  pub list : List ℕ
  pub payloads : List ℕ
  pub answer : List ℕ

-- the low 32 bits of a number: what a slot has room for
abbrev pub low_bits : ℕ → ℕ
low_bits n = n % 4294967296

-- what the reader tells, in the first 2 slots: where it accepted, recordings in force and payload bytes; on
-- 18, the bad block and 0. Any other refusal leaves the slots as they were
abbrev pub read_answer : ReadTold → List ℕ → List ℕ
read_answer t answer =
    cond (eqb t.refusal 0) (overlay answer 0 (low_bits t.recordings ∷ low_bits t.bytes ∷ []))
    (cond (eqb t.refusal 18) (overlay answer 0 (low_bits t.block ∷ 0 ∷ [])) answer)

-- what it tells, with its 2 slots. With fewer 6, and all lists as they were
abbrev pub leave_read : List ℕ → List ℕ → List ℕ → ReadTold → ReadLeft
leave_read list payloads answer t =
    cond (ltb (length answer) 2)
    (record { refusal = 6; list = list; payloads = payloads; answer = answer })
    (record {
      refusal = t.refusal;
      list = t.list;
      payloads = t.payloads;
      answer = read_answer t answer;
    })

-- the number that `wv_archive_read` answers, and what its three lists then hold
unfoldable pub read_call : List ℕ → List ℕ → List ℕ → List ℕ → ReadLeft
read_call file list payloads answer = leave_read list payloads answer (read_entry file list payloads)
