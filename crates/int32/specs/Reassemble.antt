-- Document 02 §6: what reassembly answers, and what the samples then are.
-- Assumes nothing.
use Rattle.std.specs.Prelude.{Bool, cond, List, [], ◌∷◌, map, ℕ, ◌*◌, ◌≤◌, ltb, ℤ, length, take, drop}
use Rattle.std.specs.Prelude.{Result, Ok, Err}
use Rattle.answers.specs.Guard.{or_else, unless_refused}
use Rattle.answers.specs.Limits.{max_elements}
use Rattle.answers.specs.Numbers.{number_of}
use Rattle.answers.specs.declared.Refusal.{Refusal}
use Rattle.bits.specs.Bits.{num, bits_of}
use Rattle.int32_sample.specs.Sample.{below}
use Rattle.int32_sample.specs.Setting.{reinsert}
use Rattle.int32.specs.declared.Int32Info.{Int32Info}
use Rattle.int32.specs.Info.{Fields, info_refusal, setting_of}

-- "each sample first takes sent_bits literal bits below it from a second bit stream" (Q6.1)
unfoldable pub appended : ℕ → List Bool → List ℤ → List ℤ
appended sent bits [] = []
appended sent bits (x ∷ xs) = below sent (num (take sent bits)) x ∷ appended sent (drop sent bits) xs

-- "then zeros, ones or dups, the first that isn't 0, is put in" (Q6.2)
abbrev pub reassembled : Int32Info → List Bool → List ℤ → List ℤ
reassembled info bits samples = map (reinsert (setting_of info)) (appended info.sent_bits bits samples)

-- the refusal's number (0: accepted), literal bits read; and the samples
pub record ReassembleTold : Type 0 where
  pub refusal : ℕ
  pub bits : ℕ
  pub samples : List ℤ

-- what the entry's answer tells, with the samples as they are left; a refusal tells of no bit read
abbrev pub view_reassemble : Result ℕ Refusal → List ℤ → ReassembleTold
view_reassemble (Ok bits) samples = record { refusal = 0; bits = bits; samples = samples }
view_reassemble (Err refusal) samples = record { refusal = number_of refusal; bits = 0; samples = samples }

-- 15 and 5, "then short literal bits 3": fewer than samples times sent_bits (Q6.6)
unfoldable pub reassemble_refusal : Int32Info → ℕ → ℕ → ℕ
reassemble_refusal info samples room =
    or_else (info_refusal info samples) (cond (ltb (8 * room) (samples * info.sent_bits)) 3 0)

-- what none of the refusals meets
pub record Readable (info : Int32Info) (n room : ℕ) : Type 0 where
  pub fields : Fields info
  pub few : n ≤ max_elements
  pub enough : n * info.sent_bits ≤ 8 * room

-- "a refusal alters nothing"
abbrev pub refuse_reassemble : List ℤ → ℕ → ReassembleTold
refuse_reassemble samples number = record { refusal = number; bits = 0; samples = samples }

-- what reassembly answers
unfoldable pub reassemble_entry : Int32Info → List ℤ → List ℕ → ReassembleTold
reassemble_entry info samples literal =
    unless_refused (reassemble_refusal info (length samples) (length literal)) (refuse_reassemble samples)
    (record {
      refusal = 0;
      bits = length samples * info.sent_bits;
      samples = reassembled info (bits_of literal) samples;
    })
