-- Document 01, "Why each operation says no": which entropy payloads reading and packing accept, and
-- the medians that an accepted one seeds.
-- Assumes nothing.
use Rattle.std.specs.Prelude.{ℕ, ◌≡◌, Bool, true, false, cond, ◌||◌, List, eqb, ℤ, pos, negsuc, nat_abs, get_or}
use Rattle.answers.specs.Guard.{or_else}
use Rattle.entropy.specs.declared.EntropyInfo.{EntropyInfo}
use Rattle.entropy.specs.Medians.{Medians, MedianPair, zero_pair}
use Rattle.entropy.specs.Entropy.{entropy_info, entropy_refusal, is_mono}

-- a signed number below 0
abbrev pub is_negative : ℤ → Bool
is_negative (pos n) = false
is_negative (negsuc n) = true

-- one of a set's three is negative
unfoldable pub any_negative : List ℤ → Bool
any_negative set = is_negative (get_or set 0 (pos 0)) || is_negative (get_or set 1 (pos 0)) || is_negative (get_or set 2 (pos 0))

-- document 02, §2 (Q2.2): "Number 2 stays for 6 bytes and for negative medians"
unfoldable pub not_stereo : List ℕ → Bool
not_stereo payload =
    is_mono payload || any_negative (entropy_info payload).medians_left
    || any_negative (entropy_info payload).medians_right

-- document 01 (X2), document 02, §7 (Q7.3): the refusals about the entropy payload, 1 before 17 and
-- 17 before 2; 0 means accepted
unfoldable pub seed_refusal : List ℕ → ℕ
seed_refusal payload = or_else (entropy_refusal payload) (cond (not_stereo payload) 2 0)

-- document 01, "The words of demand 3" (M4): reading accepts an entropy payload when none of the
-- refusals about it applies; 17 is one of them (Q7.4)
abbrev pub AcceptsEntropy : List ℕ → Type 0
AcceptsEntropy payload = seed_refusal payload ≡ 0

-- a set of signed medians, none of them negative, as the medians of a word state
abbrev pub seed_set : List ℤ → Medians
seed_set set =
    record { m0 = nat_abs (get_or set 0 (pos 0)); m1 = nat_abs (get_or set 1 (pos 0)); m2 = nat_abs (get_or set 2 (pos 0)) }

-- both sets of a payload
abbrev pub seed_pair : EntropyInfo → MedianPair
seed_pair info = record { left = seed_set info.medians_left; right = seed_set info.medians_right }

-- document 01, "Reading, from the entry down" (R6): the medians that an accepted payload seeds; a
-- refused one gives 0 for all six
unfoldable pub seed_medians : List ℕ → MedianPair
seed_medians payload = cond (eqb (seed_refusal payload) 0) (seed_pair (entropy_info payload)) zero_pair
