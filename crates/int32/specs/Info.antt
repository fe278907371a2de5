-- Document 02 §6: samples of 32 bits, the four fields, the setting that they make, and the two
-- refusals that both entries test first.
-- Assumes nothing.
use Rattle.std.specs.Prelude.{Bool, cond, ◌&&◌, List, ℕ, ◌≤◌, leb, ltb, ℤ, pos, get_or}
use Rattle.std.specs.Int.{w32}
use Rattle.std.proofs.Common.{SFits}
use Rattle.answers.specs.Limits.{max_elements}
use Rattle.int32_sample.specs.Setting.{Setting, setting}
use Rattle.int32.specs.declared.Int32Info.{Int32Info}

-- each is a number of 32 bits
abbrev pub Samples32 : List ℤ → Type 0
Samples32 samples = (i : ℕ) → SFits w32 (get_or samples i (pos 0))

-- "All four fields are 0 to 31" (Q6.6)
unfoldable pub fields_taken : Int32Info → Bool
fields_taken info =
    leb info.sent_bits 31 && leb info.zeros 31 && leb info.ones 31 && leb info.dups 31

-- fields that are accepted
pub record Fields (info : Int32Info) : Type 0 where
  pub sent : info.sent_bits ≤ 31
  pub zeros : info.zeros ≤ 31
  pub ones : info.ones ≤ 31
  pub dups : info.dups ≤ 31

-- "15, a field above 31, tested first"; "over 262,144 samples are 5" (Q6.6)
unfoldable pub info_refusal : Int32Info → ℕ → ℕ
info_refusal info samples = cond (fields_taken info) (cond (ltb max_elements samples) 5 0) 15

-- the redundancy setting (Q6.2)
abbrev pub setting_of : Int32Info → Setting
setting_of info = setting info.zeros info.ones info.dups
