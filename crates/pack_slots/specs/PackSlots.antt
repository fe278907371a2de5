-- The C interface of packing: the slots, and what the call answers and leaves in the lent lists, on
-- refusal too.
-- Assumes nothing.
use Rattle.std.specs.Prelude.{ℕ, cond, List, ltb, ℤ, length}
use Rattle.overlay.specs.Overlay.{overlay}
use Rattle.packing.specs.Entry.{PackTold, pack_entry}
use Rattle.median_slots.specs.MedianSlots.{count_slots}

-- the number that `wv_pack` answers, and what its two lists then hold
pub record PackLeft : Type 0 where
  pub refusal : ℕ
  pub bytes : List ℕ
  pub answer : List ℕ

-- what packing tells, on refusal too; the 7 slots are bits, left medians, right medians
abbrev pub leave_packing : PackTold → List ℕ → PackLeft
leave_packing t answer = record { refusal = t.refusal; bytes = t.bytes; answer = overlay answer 0 (count_slots t.bits t.medians) }

-- with too few slots 6, and both lists as they were
unfoldable pub pack_call : List ℤ → List ℕ → ℕ → List ℕ → List ℕ → PackLeft
pack_call residuals entropy frames out answer =
    cond (ltb (length answer) 7) (record { refusal = 6; bytes = out; answer = answer }) (leave_packing (pack_entry residuals entropy frames out) answer)
