-- The C interface of wide samples: the slots, and what each call answers and leaves in the lent
-- lists, on refusal too (Q6.6).
-- Assumes nothing.
use Rattle.std.specs.Prelude.{cond, List, [], ◌∷◌, ℕ, ltb, ℤ, length}
use Rattle.int32.specs.declared.Int32Info.{Int32Info}
use Rattle.int32.specs.Reassemble.{ReassembleTold, reassemble_entry}
use Rattle.int32.specs.Deconstruct.{DeconstructTold, deconstruct_entry}
use Rattle.slots.specs.Slots.{Filled, fill_call, leave_values}

-- what reassembly answers, with 1 slot: the literal bits read
abbrev pub leave_reassemble : List ℤ → List ℕ → ReassembleTold → Filled ℤ
leave_reassemble samples answer t = fill_call 1 samples answer t.refusal t.samples (t.bits ∷ [])

-- the number that `wv_reassemble_int32` answers, and what its two lists then hold
unfoldable pub reassemble_call : Int32Info → List ℤ → List ℕ → List ℕ → Filled ℤ
reassemble_call info samples literal answer =
    leave_reassemble samples answer (reassemble_entry info samples literal)

-- what the way back leaves: the number that it answers, and its three lists
pub record Divided : Type 0 where
  pub refusal : ℕ
  pub samples : List ℤ
  pub literal : List ℕ
  pub answer : List ℕ

-- what it answers, with 1 slot: the literal bits written. Without the slot 6, and all lists as they were
abbrev pub leave_deconstruct : List ℤ → List ℕ → List ℕ → DeconstructTold → Divided
leave_deconstruct samples literal answer t =
    cond (ltb (length answer) 1)
    (record { refusal = 6; samples = samples; literal = literal; answer = answer })
    (record {
      refusal = t.refusal;
      samples = t.samples;
      literal = t.literal;
      answer = leave_values t.refusal (t.bits ∷ []) answer;
    })

-- the number that `wv_deconstruct_int32` answers, and what its three lists then hold
unfoldable pub deconstruct_call : Int32Info → List ℤ → List ℕ → List ℕ → Divided
deconstruct_call info samples literal answer =
    leave_deconstruct samples literal answer (deconstruct_entry info samples literal)
