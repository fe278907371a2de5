-- The C interface of the morning page: the slot, and what the call answers and leaves in the lent
-- lists, on refusal too (Q5.6).
-- Assumes nothing.
use Rattle.std.specs.Prelude.{ℕ, List, [], ◌∷◌, ℤ}
use Rattle.morning_page.specs.Entry.{PageTold, page_entry}
use Rattle.slots.specs.Slots.{Filled, fill_call}

-- what the entry tells, with 1 slot: the bytes written
abbrev pub leave_page : List ℕ → List ℕ → PageTold → Filled ℕ
leave_page page answer t = fill_call 1 page answer t.refusal t.bytes (t.written ∷ [])

-- the number that `wv_morning_page` answers, and what its two lists then hold
unfoldable pub page_call : List ℤ → ℕ → List ℕ → List ℕ → Filled ℕ
page_call samples threshold page answer = leave_page page answer (page_entry threshold samples page)
